-- A value whose objects have their members in the order in which they are written. Its compact text is the value's text in a layout.
use Rattle.std.proofs.Common.{◌≡◌, List, [], ◌∷◌, ◌++◌, Bool, true, false, refl, sym, ap, ap₂, ◌∙◌, append_assoc}
use Rattle.schemars_definitions.proofs.Words.{bytes_eq, filter, if◌then◌else◌, not, ◌||◌, quoted, Data, null, boolean, number, string, array, object, Items, no_items, item, Members, no_members, member, compact_text, items_text, members_text, comma_if, Layout, PlainJson, SchemaLayout, NamedSchemas, layout_under, layout_inside, first_keywords, last_keywords, is_listed, Written, written_at, each_written_at, arranged, texts, with_commas, text_in, item_texts, member_texts}
use Rattle.schemars_text.specs.Text.{Text}

-- ---- members in the order in which they are written

abbrev pub joined : Members → Members → Members
joined no_members ns = ns
joined (member k d ms) ns = member k d (joined ms ns)

-- the member with this key, if there is one
abbrev pub member_at : Text → Members → Members
member_at k no_members = no_members
member_at k (member l d ms) = if bytes_eq k l then member l d no_members else member_at k ms

abbrev pub each_member_at : List Text → Members → Members
each_member_at [] ms = no_members
each_member_at (k ∷ ks) ms = joined (member_at k ms) (each_member_at ks ms)

abbrev pub those_with : (Text → Bool) → Members → Members
those_with p no_members = no_members
those_with p (member k d ms) = if p k then member k d (those_with p ms) else those_with p ms

abbrev pub has_no_place : Text → Bool
has_no_place k = not (is_listed k first_keywords || is_listed k last_keywords)

abbrev pub in_place : Members → Members
in_place ms = joined (each_member_at first_keywords ms) (joined (those_with has_no_place ms) (each_member_at last_keywords ms))

abbrev pub arranged_members : Layout → Members → Members
arranged_members PlainJson ms = ms
arranged_members SchemaLayout ms = in_place ms
arranged_members NamedSchemas ms = ms

abbrev mutual
  pub rearranged : Layout → Data → Data
  rearranged layout null = null
  rearranged layout (boolean b) = boolean b
  rearranged layout (number n) = number n
  rearranged layout (string s) = string s
  rearranged layout (array ds) = array (rearranged_items (layout_inside layout) ds)
  rearranged layout (object ms) = object (arranged_members layout (rearranged_members layout ms))

  pub rearranged_items : Layout → Items → Items
  rearranged_items layout no_items = no_items
  rearranged_items layout (item d ds) = item (rearranged layout d) (rearranged_items layout ds)

  pub rearranged_members : Layout → Members → Members
  rearranged_members layout no_members = no_members
  rearranged_members layout (member k d ms) = member k (rearranged (layout_under layout k) d) (rearranged_members layout ms)

-- ---- what is written for members

abbrev compact_member : Text → Data → Written
compact_member k d = record { key = k; text = quoted k ++ 58 ∷ compact_text d }

abbrev compact_members : Members → List Written
compact_members no_members = []
compact_members (member k d ms) = compact_member k d ∷ compact_members ms

compact-joined : (ms ns : Members) → compact_members (joined ms ns) ≡ compact_members ms ++ compact_members ns
compact-joined no_members ns = refl
compact-joined (member k d ms) ns = ap (λ ws. compact_member k d ∷ ws) (compact-joined ms ns)

compact-member_at : (k : Text) (ms : Members) → compact_members (member_at k ms) ≡ written_at k (compact_members ms)
compact-member_at k no_members = refl
compact-member_at k (member l d ms) = go (bytes_eq k l) (compact-member_at k ms)
  where
    go : (b : Bool) → compact_members (member_at k ms) ≡ written_at k (compact_members ms)
        → compact_members (if b then member l d no_members else member_at k ms)
        ≡ (if b then compact_member l d ∷ [] else written_at k (compact_members ms))
    go true later = refl
    go false later = later

compact-each_member_at : (ks : List Text) (ms : Members) → compact_members (each_member_at ks ms) ≡ each_written_at ks (compact_members ms)
compact-each_member_at [] ms = refl
compact-each_member_at (k ∷ ks) ms =
    compact-joined (member_at k ms) (each_member_at ks ms)
    ∙ ap₂ (λ ws vs. ws ++ vs) (compact-member_at k ms) (compact-each_member_at ks ms)

compact-those_with : (p : Text → Bool) (ms : Members) → compact_members (those_with p ms) ≡ filter (λ w. p w.key) (compact_members ms)
compact-those_with p no_members = refl
compact-those_with p (member l d ms) = go (p l) (compact-those_with p ms)
  where
    go : (b : Bool) → compact_members (those_with p ms) ≡ filter (λ w. p w.key) (compact_members ms)
        → compact_members (if b then member l d (those_with p ms) else those_with p ms)
        ≡ (if b then compact_member l d ∷ filter (λ w. p w.key) (compact_members ms) else filter (λ w. p w.key) (compact_members ms))
    go true later = ap (λ ws. compact_member l d ∷ ws) later
    go false later = later

compact-in_place : (ms : Members) → compact_members (in_place ms) ≡ arranged SchemaLayout (compact_members ms)
compact-in_place ms =
    let first = each_member_at first_keywords ms in
    let rest = those_with has_no_place ms in
    let last = each_member_at last_keywords ms in
    compact-joined first (joined rest last)
    ∙ ap₂ (λ ws vs. ws ++ vs) (compact-each_member_at first_keywords ms)
    (compact-joined rest last
    ∙ ap₂ (λ ws vs. ws ++ vs) (compact-those_with has_no_place ms) (compact-each_member_at last_keywords ms))

compact-arranged : (layout : Layout) (ms : Members) → compact_members (arranged_members layout ms) ≡ arranged layout (compact_members ms)
compact-arranged PlainJson ms = refl
compact-arranged SchemaLayout ms = compact-in_place ms
compact-arranged NamedSchemas ms = refl

-- ---- the text

abbrev compact_items : Items → List Text
compact_items no_items = []
compact_items (item d ds) = compact_text d ∷ compact_items ds

regroup : (a b c d : Text) → a ++ (b ++ (c ++ d)) ≡ (a ++ (b ++ c)) ++ d
regroup a b c d = ap (λ s. a ++ s) (sym (append_assoc b c d)) ∙ sym (append_assoc a (b ++ c) d)

items_text-with_commas : (later : Bool) (ds : Items) → items_text later ds ≡ with_commas later (compact_items ds) ++ 93 ∷ []
items_text-with_commas later no_items = refl
items_text-with_commas later (item d ds) =
    ap (λ s. comma_if later ++ (compact_text d ++ s)) (items_text-with_commas true ds)
    ∙ regroup (comma_if later) (compact_text d) (with_commas true (compact_items ds)) (93 ∷ [])

members_text-with_commas : (later : Bool) (ms : Members)
    → members_text later ms ≡ with_commas later (texts (compact_members ms)) ++ 125 ∷ []
members_text-with_commas later no_members = refl
members_text-with_commas later (member k d ms) =
    let more = with_commas true (texts (compact_members ms)) in
    ap (λ s. comma_if later ++ (quoted k ++ 58 ∷ (compact_text d ++ s))) (members_text-with_commas true ms)
    ∙ ap (λ s. comma_if later ++ s) (sym (append_assoc (quoted k) (58 ∷ compact_text d) (more ++ 125 ∷ [])))
    ∙ regroup (comma_if later) (quoted k ++ 58 ∷ compact_text d) more (125 ∷ [])

mutual
  unfolding text_in item_texts member_texts

  pub compact_text-rearranged : (layout : Layout) (d : Data) → compact_text (rearranged layout d) ≡ text_in layout d
  compact_text-rearranged layout null = refl
  compact_text-rearranged layout (boolean b) = refl
  compact_text-rearranged layout (number n) = refl
  compact_text-rearranged layout (string s) = refl
  compact_text-rearranged layout (array ds) =
      ap (λ s. 91 ∷ s) (items_text-with_commas false (rearranged_items (layout_inside layout) ds)
      ∙ ap (λ ts. with_commas false ts ++ 93 ∷ []) (compact_items-rearranged (layout_inside layout) ds))
  compact_text-rearranged layout (object ms) =
      ap (λ s. 123 ∷ s) (members_text-with_commas false (arranged_members layout (rearranged_members layout ms))
      ∙ ap (λ ws. with_commas false (texts ws) ++ 125 ∷ []) (compact-arranged layout (rearranged_members layout ms)
      ∙ ap (arranged layout) (compact_members-rearranged layout ms)))

  compact_items-rearranged : (layout : Layout) (ds : Items) → compact_items (rearranged_items layout ds) ≡ item_texts layout ds
  compact_items-rearranged layout no_items = refl
  compact_items-rearranged layout (item d ds) =
      ap₂ (λ t ts. t ∷ ts) (compact_text-rearranged layout d) (compact_items-rearranged layout ds)

  compact_members-rearranged : (layout : Layout) (ms : Members) → compact_members (rearranged_members layout ms) ≡ member_texts layout ms
  compact_members-rearranged layout no_members = refl
  compact_members-rearranged layout (member k d ms) =
      ap₂ (λ t ws. record { key = k; text = quoted k ++ 58 ∷ t } ∷ ws) (compact_text-rearranged (layout_under layout k) d)
      (compact_members-rearranged layout ms)
