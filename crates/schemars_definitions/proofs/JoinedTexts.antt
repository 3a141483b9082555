-- The text of an object with a place for definitions: that of what is in front of it, the definitions, and two braces.
use Rattle.std.proofs.Common.{◌≡◌, ◌<◌, ◌-◌, ℕ, List, [], ◌∷◌, ◌++◌, length, get_or, take, Bool, true, false, ◌||◌, Option, Some, None, refl, sym, ap, ◌∙◌, subst, append_assoc, append-nil, length-append, arith}
use Rattle.schemars_definitions.proofs.Words.{get_or-append_seam, take-append_seam, or_parts, bytes_eq-Decides, bytes_eq, codes, if◌then◌else◌, quoted, Data, null, boolean, number, string, array, object, Members, no_members, member, get_member, comma_if, SchemaLayout, NamedSchemas, Written, written_at, each_written_at, others, arranged, texts, with_commas, text_in, member_texts, ordered_text, definitions_text, is_listed, layout_under, first_keywords, last_keywords, flipped, written_member, written_at-found, written_at-missing, replaced, get_member-replaced, get_member-replaced_other, HasPlaceAt, definition_keys, with_names}
use Rattle.schemars_text.specs.Text.{Text}

abbrev written : Members → List Written
written ms = member_texts SchemaLayout ms

-- ---- what is written where a member is replaced

written_at-replaced_other : (j k : Text) (d : Data) (ms : Members) → bytes_eq j k ≡ false
    → written_at j (written (replaced k d ms)) ≡ written_at j (written ms)
written_at-replaced_other j k d ms apart = go (get_member j ms) refl
  where
    same : get_member j (replaced k d ms) ≡ get_member j ms
    same = get_member-replaced_other j k d ms apart

    go : (o : Option Data) → get_member j ms ≡ o → written_at j (written (replaced k d ms)) ≡ written_at j (written ms)
    go None is = written_at-missing j (replaced k d ms) (same ∙ is) ∙ sym (written_at-missing j ms is)
    go (Some e) is = written_at-found j e (replaced k d ms) (same ∙ is) ∙ sym (written_at-found j e ms is)

each_written_at-replaced_other : (ks : List Text) (k : Text) (d : Data) (ms : Members) → is_listed k ks ≡ false
    → each_written_at ks (written (replaced k d ms)) ≡ each_written_at ks (written ms)
each_written_at-replaced_other [] k d ms apart = refl
each_written_at-replaced_other (j ∷ ks) k d ms apart =
    let parts = or_parts (bytes_eq k j) (is_listed k ks) apart in
    rw (written_at-replaced_other j k d ms (flipped k j parts.0), each_written_at-replaced_other ks k d ms parts.1)

abbrev has_place : Text → Bool
has_place k = is_listed k first_keywords || is_listed k last_keywords

others-replaced : (k : Text) (d : Data) (ms : Members) → has_place k ≡ true → others (written (replaced k d ms)) ≡ others (written ms)
unfolding member_texts
others-replaced k d no_members placed = refl
others-replaced k d (member l e ms) placed = go (bytes_eq k l) refl (others-replaced k d ms placed)
  where
    go : (b : Bool) → bytes_eq k l ≡ b → others (written (replaced k d ms)) ≡ others (written ms)
        → others (written (if b then member l d ms else member l e (replaced k d ms))) ≡ others (written (member l e ms))
    go true is later =
        let there : has_place l ≡ true = ap has_place (sym ((bytes_eq-Decides k l).0 is)) ∙ placed in rw there
    go false is later = rw later

-- what is so at each key of definitions
pub at_each_key : (P : Text → Type 0) → P (codes "$defs") → P (codes "definitions") → (k : Text) → is_listed k definition_keys ≡ true → P k
at_each_key P defs old k listed = go (bytes_eq k (codes "$defs")) refl (bytes_eq k (codes "definitions")) refl listed
  where
    go : (b : Bool) → bytes_eq k (codes "$defs") ≡ b → (c : Bool) → bytes_eq k (codes "definitions") ≡ c → b || (c || false) ≡ true → P k
    go true is c at h = subst P (sym ((bytes_eq-Decides k (codes "$defs")).0 is)) defs
    go false is true at h = subst P (sym ((bytes_eq-Decides k (codes "definitions")).0 at)) old
    go false is false at h = cc

layout_at : (k : Text) → is_listed k definition_keys ≡ true → layout_under SchemaLayout k ≡ NamedSchemas
layout_at = at_each_key (λ k. layout_under SchemaLayout k ≡ NamedSchemas) refl refl

-- what is written in front of definitions
abbrev in_front : Members → List Written
in_front ms = each_written_at first_keywords (written ms) ++ others (written ms)

in_front-replaced : (k : Text) (d : Data) (ms : Members) → is_listed k definition_keys ≡ true → in_front (replaced k d ms) ≡ in_front ms
in_front-replaced k d ms listed = rw (
  each_written_at-replaced_other first_keywords k d ms (at_each_key (λ j. is_listed j first_keywords ≡ false) refl refl k listed),
  others-replaced k d ms (at_each_key (λ j. has_place j ≡ true) refl refl k listed),
) refl

-- no other key of definitions has a member
abbrev IsAlone : Text → Members → Type 0
IsAlone k ms = (j : Text) → is_listed j definition_keys ≡ true → bytes_eq j k ≡ false → get_member j ms ≡ None

-- definitions are the last member
abbrev IsLast : Data → Members → Text → Type 0
IsLast d ms k = get_member k ms ≡ Some d → IsAlone k ms → arranged SchemaLayout (written ms) ≡ in_front ms ++ written_member k d ∷ []

defs-last : (d : Data) (ms : Members) → IsLast d ms (codes "$defs")
defs-last d ms here alone =
    let k = codes "$defs" in
    let first = each_written_at first_keywords (written ms) in
    rw (written_at-found k d ms here, written_at-missing (codes "definitions") ms (alone (codes "definitions") refl refl))
    (sym (append_assoc first (others (written ms)) (written_member k d ∷ [])))

definitions-last : (d : Data) (ms : Members) → IsLast d ms (codes "definitions")
definitions-last d ms here alone =
    let k = codes "definitions" in
    let first = each_written_at first_keywords (written ms) in
    rw (written_at-found k d ms here, written_at-missing (codes "$defs") ms (alone (codes "$defs") refl refl))
    (sym (append_assoc first (others (written ms)) (written_member k d ∷ [])))

arranged-last : (k : Text) (d : Data) (ms : Members) → is_listed k definition_keys ≡ true → IsLast d ms k
arranged-last k d ms listed = at_each_key (IsLast d ms) (defs-last d ms) (definitions-last d ms) k listed

-- ---- text

abbrev is_more : {A : Type 0} → List A → Bool
is_more [] = false
is_more (x ∷ xs) = true

with_commas-last : (later : Bool) (ts : List Text) (t : Text)
    → with_commas later (ts ++ t ∷ []) ≡ with_commas later ts ++ (comma_if (later || is_more ts) ++ t)
with_commas-last true [] t = ap (λ x. 44 ∷ x) (append-nil t)
with_commas-last false [] t = append-nil t
with_commas-last true (u ∷ us) t = rw (with_commas-last true us t) (ap (λ x. 44 ∷ x) (sym (append_assoc u (with_commas true us) (44 ∷ t))))
with_commas-last false (u ∷ us) t = rw (with_commas-last true us t) (sym (append_assoc u (with_commas true us) (44 ∷ t)))

texts-last : (ws : List Written) (w : Written) → texts (ws ++ w ∷ []) ≡ texts ws ++ w.text ∷ []
texts-last [] w = refl
texts-last (v ∷ vs) w = ap (λ ts. v.text ∷ ts) (texts-last vs w)

-- the texts of definitions
abbrev pub definition_texts : Members → List Text
definition_texts ms = texts (member_texts NamedSchemas ms)

pub one_definition : (k : Text) (d : Data) (ms : Members) → definition_texts (member k d ms)
    ≡ (quoted k ++ 58 ∷ ordered_text d) ∷ definition_texts ms
unfolding member_texts
one_definition k d ms = refl

pub one_more : (out : Text) (later : Bool) (t : Text) (ts : List Text)
    → ((out ++ comma_if later) ++ t) ++ with_commas true ts ≡ out ++ with_commas later (t ∷ ts)
one_more out later t ts = append_assoc (out ++ comma_if later) t (with_commas true ts)
    ∙ append_assoc out (comma_if later) (t ++ with_commas true ts)

pub no_more : (out : Text) (later : Bool) → out ++ with_commas later (definition_texts no_members) ≡ out
unfolding member_texts
no_more out later = append-nil out

-- a text without its last byte, where that is ASCII
abbrev IsCut : Text → ℕ → Text → Type 0
IsCut start n front = 0 < n → get_or start (n - 1) 0 < 128 → front ≡ take (n - 1) start

-- the brace at the end is taken off
cut_last : (xs start front : Text) (x n : ℕ) → x < 128 → start ≡ xs ++ x ∷ [] → n ≡ length start → IsCut start n front → front ≡ xs
cut_last xs start front x n ascii is len cut =
    let at : n - 1 ≡ length xs = omega (arith, ap length is, length-append xs (x ∷ [])) in
    let last : get_or start (n - 1) 0 ≡ x = rw (at, is) (get_or-append_seam xs x [] 0) in
    cut (omega (arith, ap length is, length-append xs (x ∷ []))) (rw last ascii) ∙ rw (at, is) (take-append_seam xs (x ∷ []))

-- the text of an object up to the definitions that are its last member
abbrev start_of : Text → List Text → Text
start_of key own = 123 ∷ (with_commas false own ++ (comma_if (is_more own) ++ (quoted key ++ 58 ∷ 123 ∷ [])))

regroup : (own comma key names : Text) → 123 ∷ ((own ++ (comma ++ (key ++ 58 ∷ 123 ∷ (names ++ 125 ∷ [])))) ++ 125 ∷ [])
    ≡ ((123 ∷ (own ++ (comma ++ (key ++ 58 ∷ 123 ∷ [])))) ++ names) ++ 125 ∷ 125 ∷ []
regroup own comma key names = simp append_assoc

-- the text of an object, by what is in front of its definitions
in_parts : (key : Text) (defs ms : Members) → is_listed key definition_keys ≡ true → get_member key ms ≡ Some (object defs) → IsAlone key ms
    → ordered_text (object ms) ≡ (start_of key (texts (in_front ms)) ++ with_commas false (definition_texts defs)) ++ codes "}}"
unfolding text_in
in_parts key defs ms listed here alone =
    let own = texts (in_front ms) in
    let last = written_member key (object defs) in
    let text : last.text ≡ quoted key ++ 58 ∷ text_in NamedSchemas (object defs) =
    ap (λ layout. quoted key ++ 58 ∷ text_in layout (object defs)) (layout_at key listed) in
    let all : texts (arranged SchemaLayout (written ms)) ≡ own ++ last.text ∷ [] =
    ap texts (arranged-last key (object defs) ms listed here alone) ∙ texts-last (in_front ms) last in
    rw (all, with_commas-last false own last.text, text)
    (regroup (with_commas false own) (comma_if (is_more own)) (quoted key) (with_commas false (definition_texts defs)))

-- with an empty object there
with_place : (key : Text) (ms : Members) → is_listed key definition_keys ≡ true → get_member key ms ≡ Some (object no_members)
    → IsAlone key ms → ordered_text (object ms) ≡ (start_of key (texts (in_front ms)) ++ 125 ∷ []) ++ 125 ∷ []
unfolding member_texts
with_place key ms listed empty alone =
    let start = start_of key (texts (in_front ms)) in
    in_parts key no_members ms listed empty alone
    ∙ (ap (λ t. t ++ 125 ∷ 125 ∷ []) (append-nil start) ∙ sym (append_assoc start (125 ∷ []) (125 ∷ [])))

-- and with definitions in its place
with_definitions : (key : Text) (defs ms : Members) → is_listed key definition_keys ≡ true → get_member key ms ≡ Some (object no_members)
    → IsAlone key ms → ordered_text (object (replaced key (object defs) ms))
    ≡ (start_of key (texts (in_front ms)) ++ with_commas false (definition_texts defs)) ++ codes "}}"
with_definitions key defs ms listed empty alone =
    let new = replaced key (object defs) ms in
    in_parts key defs new listed (get_member-replaced key (object defs) (object no_members) ms empty)
    (λ j at apart. get_member-replaced_other j key (object defs) ms apart ∙ alone j at apart)
    ∙ ap (λ ws. (start_of key (texts ws) ++ with_commas false (definition_texts defs)) ++ codes "}}")
    (in_front-replaced key (object defs) ms listed)

-- the text of an object without the two braces at its end, the definitions, and the braces again
pub joined_text : (key : Text) (defs : Members) (own : Data) (start cut front : Text) (n m : ℕ) → HasPlaceAt key own
    → start ≡ ordered_text own → n ≡ length start → IsCut start n cut → m ≡ length cut → IsCut cut m front
    → (front ++ with_commas false (definition_texts defs)) ++ codes "}}" ≡ ordered_text (with_names key defs own)
joined_text key defs (object ms) start cut front n m place is len once again_len again =
    let head = start_of key (texts (in_front ms)) in
    let first : cut ≡ head ++ 125 ∷ [] =
    cut_last (head ++ 125 ∷ []) start cut 125 n (omega arith) (is ∙ with_place key ms place.listed place.empty place.alone) len once in
    let second : front ≡ head = cut_last head cut front 125 m (omega arith) first again_len again in
    ap (λ t. (t ++ with_commas false (definition_texts defs)) ++ codes "}}") second
    ∙ sym (with_definitions key defs ms place.listed place.empty place.alone)
joined_text key defs null start cut front n m place is len once again_len again = cc place.empty
joined_text key defs (boolean b) start cut front n m place is len once again_len again = cc place.empty
joined_text key defs (number x) start cut front n m place is len once again_len again = cc place.empty
joined_text key defs (string s) start cut front n m place is len once again_len again = cc place.empty
joined_text key defs (array ds) start cut front n m place is len once again_len again = cc place.empty

-- definitions by themselves
pub braced_text : (defs : Members) (start first front out : Text) → start ≡ [] → first ≡ start ++ 123 ∷ []
    → front ≡ first ++ with_commas false (definition_texts defs) → out ≡ front ++ 125 ∷ [] → out ≡ definitions_text defs
unfolding text_in
braced_text defs start first front out none brace all end =
    rw (end, all, brace, none) refl
