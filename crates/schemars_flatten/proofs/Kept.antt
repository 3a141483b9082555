-- What holds of schemas, keyword by keyword, holds of what is made from them.
use Rattle.std.proofs.Common.{◌≡◌, Option, Some, None, Bool, true, false, [], ◌∷◌, Ordering, Less, Equal, Greater, refl, sym, subst, nat_cmp, true≢false}
use Rattle.schemars_flatten.proofs.Words.{exact_bytes, bytes_eq-Decides, ◌||◌, bytes_eq, codes, if◌then◌else◌, option_map, option_and_then, match_ordering, slice_cmp, Data, null, boolean, number, string, array, object, Items, no_items, item, Members, no_members, member, put, get, get_member, as_array, as_object, as_str, Text, is_listed, members_in, put_members, removed, replaced, without, with_item, changed_at, on_list, NoSchemas, OneSchema, SchemaList, with_same_object, with_same_objects, both_some, object-as_object, array-as_array, contains_key, has_subschema, moved, moved_beside, opened_schema, appended, joined, merged, is_joined, is_merged, is_choice, united, with_united, alone, both_choices, with_choice, with_keyword, with_keywords, united_all, flattened, form_at, forms, in_items, in_keywords, closes_by, opened_at, opened_here, same_object_place, opening, opened, opened_inside, has_type, unit_object, unit_object_first, unit_objects, units_of, with_items, with_units, first_units, behind_first, first_as_objects, list_changed_at, units_as_objects, holds_empty_object, with_empty_object, one_or_anything, choice_or_anything, optional_where, flattened_part}
use Rattle.schemars_flatten.specs.Flatten as flatten

abbrev pub AllMembers : (Text → Data → Type 0) → Members → Type 0
AllMembers Q no_members = Unit {0}
AllMembers Q (member k d ms) = Q k d × AllMembers Q ms

abbrev pub AllItems : (Data → Type 0) → Items → Type 0
AllItems S no_items = Unit {0}
AllItems S (item d ds) = S d × AllItems S ds

-- what is said of an object is said of each of its keywords, and of what judges the same object as of schemas
pub record IsByKeyword (S : Data → Type 0) (Q : Text → Data → Type 0) : Type 0 where
  pub truth : (b : Bool) → S (boolean b)
  pub parts : (ms : Members) → S (object ms) → AllMembers Q ms
  pub whole : (ms : Members) → AllMembers Q ms → S (object ms)
  pub schema : (k : Text) (d : Data) → is_listed k with_same_object ≡ true → Q k d → S d
  pub under : (k : Text) (d : Data) → is_listed k with_same_object ≡ true → S d → Q k d
  pub items : (k : Text) (ds : Items) → is_listed k with_same_objects ≡ true → Q k (array ds) → AllItems S ds
  pub list : (k : Text) (ds : Items) → is_listed k with_same_objects ≡ true → AllItems S ds → Q k (array ds)
  pub nothing : Q (codes "not") (object no_members)
  pub additional : Q (codes "additionalProperties") (boolean true)
  pub unevaluated : Q (codes "unevaluatedProperties") (boolean true)
  pub renamed : (d : Data) → Q (codes "additionalProperties") d → Q (codes "unevaluatedProperties") d
  pub required : (ds es : Items) → Q (codes "required") (array ds) → Q (codes "required") (array es)
      → Q (codes "required") (array (appended ds es))
  pub properties : (ms ns : Members) → Q (codes "properties") (object ms) → Q (codes "properties") (object ns)
      → Q (codes "properties") (object (put_members ns ms))
  pub by_pattern : (ms ns : Members) → Q (codes "patternProperties") (object ms)
      → Q (codes "patternProperties") (object ns)
      → Q (codes "patternProperties") (object (put_members ns ms))
  pub unit : (name : Text) → S (unit_object name)

-- ---- members that are put in, taken out and looked up

module _ (Q : Text → Data → Type 0) where
  abbrev All : Members → Type 0
  All ms = AllMembers Q ms

  pub all_put : (k : Text) (d : Data) (ms : Members) → Q k d → All ms → All (put k d ms)
  all_put k d no_members new all = (new, tt)
  all_put k d (member l e ms) new all = go (slice_cmp nat_cmp k l) refl (all_put k d ms new all.1)
    where
      go : (o : Ordering) → slice_cmp nat_cmp k l ≡ o → All (put k d ms)
          → All (match_ordering o (member k d (member l e ms)) (member l d ms) (member l e (put k d ms)))
      go Less is later = (new, all)
      go Equal is later = (subst (λ x. Q x d) (exact_bytes k l is) new, all.1)
      go Greater is later = (all.0, later)

  pub all_without : (k : Text) (ms : Members) → All ms → All (without k ms)
  all_without k no_members all = tt
  all_without k (member l e ms) all = go (bytes_eq k l) (all_without k ms all.1)
    where
      go : (b : Bool) → All (without k ms) → All (if b then ms else member l e (without k ms))
      go true later = all.1
      go false later = (all.0, later)

  pub all_replaced : (k : Text) (d : Data) (ms : Members) → Q k d → All ms → All (replaced k d ms)
  all_replaced k d no_members new all = tt
  all_replaced k d (member l e ms) new all = go (bytes_eq k l) refl (all_replaced k d ms new all.1)
    where
      go : (b : Bool) → bytes_eq k l ≡ b → All (replaced k d ms)
          → All (if b then member l d ms else member l e (replaced k d ms))
      go true is later = (subst (λ x. Q x d) ((bytes_eq-Decides k l).0 is) new, all.1)
      go false is later = (all.0, later)

  pub at : (k : Text) (ms : Members) (d : Data) → All ms → get_member k ms ≡ Some d → Q k d
  at k no_members d all is = cc
  at k (member l e ms) d all is = go (slice_cmp nat_cmp k l) refl is (at k ms d all.1)
    where
      go : (o : Ordering) → slice_cmp nat_cmp k l ≡ o
          → match_ordering o (get_member k ms) (Some e) (get_member k ms) ≡ Some d
          → (get_member k ms ≡ Some d → Q k d) → Q k d
      go Less same is later = later is
      go Equal same is later =
          let value : e ≡ d = cc in subst (Q k) value (subst (λ x. Q x e) (sym (exact_bytes k l same)) all.0)
      go Greater same is later = later is

  pub all_put_members : (new ms : Members) → All new → All ms → All (put_members new ms)
  all_put_members no_members ms first all = all
  all_put_members (member k d new) ms first all = all_put_members new (put k d ms) first.1 (all_put k d ms first.0 all)

module _ (S : Data → Type 0) (Q : Text → Data → Type 0) (h : IsByKeyword S Q) where
  abbrev Each : Items → Type 0
  Each ds = AllItems S ds

  in_schema : (s : Data) → S s → AllMembers Q (members_in s)
  in_schema (boolean false) all = (h.nothing, tt)
  in_schema (object ms) all = h.parts ms all
  in_schema _ all = tt

  found : (k : Text) (s d : Data) → S s → get k s ≡ Some d → Q k d
  found k (object ms) d all is = at Q k ms d (h.parts ms all) is
  found k _ d all is = cc

  without_one : (k : Text) (s : Data) → S s → S (removed k s)
  without_one k (object ms) all = h.whole (without k ms) (all_without Q k ms (h.parts ms all))
  without_one k _ all = all

  each_appended : (ds es : Items) → Each ds → Each es → Each (appended ds es)
  each_appended no_items es first second = second
  each_appended (item d ds) es first second = (first.0, each_appended ds es first.1 second)

  each_with_item : (ds : Items) (e : Data) → Each ds → S e → Each (with_item ds e)
  each_with_item no_items e first new = (new, tt)
  each_with_item (item d ds) e first new = (first.0, each_with_item ds e first.1 new)

  -- ---- two schemas in one

  -- one of two names
  named : (k a b : Text) (P : Text → Type 0) → P a → P b → is_listed k (a ∷ b ∷ []) ≡ true → P k
  named k a b P first second is = go (bytes_eq k a) (bytes_eq k b) refl refl is
    where
      go : (x y : Bool) → bytes_eq k a ≡ x → bytes_eq k b ≡ y → x || (y || false) ≡ true → P k
      go true y here there is = subst P (sym ((bytes_eq-Decides k a).0 here)) first
      go false true here there is = subst P (sym ((bytes_eq-Decides k b).0 there)) second
      go false false here there is = absurd (true≢false (sym is))

  abbrev Joins : Text → Type 0
  Joins k = (ds es : Items) → Q k (array ds) → Q k (array es) → Q k (array (appended ds es))

  abbrev Merges : Text → Type 0
  Merges k = (ms ns : Members) → Q k (object ms) → Q k (object ns) → Q k (object (put_members ns ms))

  choices_join : Joins (codes "allOf")
  choices_join ds es first second =
      h.list (codes "allOf") (appended ds es) refl
      (each_appended ds es (h.items (codes "allOf") ds refl first) (h.items (codes "allOf") es refl second))

  joined_kept : (k : Text) (first second : Data) → Joins k → Q k first → Q k second → Q k (joined first second)
  joined_kept k first second joins f g = go (as_array second) (as_array first) refl refl
    where
      go : (o p : Option Items) → as_array second ≡ o → as_array first ≡ p
          → Q k (elim (both_some (λ es ds. appended ds es) o p) [ None ↦ first | Some ds ↦ array ds ])
      go None p there here = f
      go (Some es) None there here = f
      go (Some es) (Some ds) there here =
          joins ds es (subst (Q k) (array-as_array first ds (sym here)) f)
          (subst (Q k) (array-as_array second es (sym there)) g)

  merged_kept : (k : Text) (first second : Data) → Merges k → Q k first → Q k second → Q k (merged first second)
  merged_kept k first second merges f g = go (as_object second) (as_object first) refl refl
    where
      go : (o p : Option Members) → as_object second ≡ o → as_object first ≡ p
          → Q k (elim (both_some put_members o p) [ None ↦ first | Some ms ↦ object ms ])
      go None p there here = f
      go (Some ns) None there here = f
      go (Some ns) (Some ms) there here =
          merges ms ns (subst (Q k) (object-as_object first ms (sym here)) f)
          (subst (Q k) (object-as_object second ns (sym there)) g)

  united_kept : (k : Text) (first second : Data) → Q k first → Q k second → Q k (united k first second)
  united_kept k first second f g = go (is_joined k) (is_merged k) refl refl
    where
      go : (joins merges : Bool) → is_joined k ≡ joins → is_merged k ≡ merges
          → Q k (if joins then joined first second else if merges then merged first second else first)
      go true merges is also =
          joined_kept k first second
          (named k (codes "required") (codes "allOf") Joins h.required choices_join is) f g
      go false true is also =
          merged_kept k first second
          (named k (codes "properties") (codes "patternProperties") Merges h.properties h.by_pattern also) f g
      go false false is also = f

  all_united : (k : Text) (d : Data) (ms : Members) → Q k d → AllMembers Q ms → AllMembers Q (with_united k d ms)
  all_united k d ms new all = go (get_member k ms) refl
    where
      go : (o : Option Data) → get_member k ms ≡ o
          → AllMembers Q (elim o [ None ↦ put k d ms | Some e ↦ replaced k (united k e d) ms ])
      go None is = all_put Q k d ms new all
      go (Some e) is = all_replaced Q k (united k e d) ms (united_kept k e d (at Q k ms e all is) new) all

  all_chosen : (k : Text) (d : Data) (ms : Members) → Q k d → AllMembers Q ms → AllMembers Q (with_choice k d ms)
  all_chosen k d ms new all = go (get_member k ms) refl
    where
      go : (o : Option Data) → get_member k ms ≡ o → AllMembers Q (elim o [
        | None ↦ put k d ms
        | Some e ↦ with_united (codes "allOf") (both_choices k e d) (without k ms)
      ])
      go None is = all_put Q k d ms new all
      go (Some e) is =
          let one : (f : Data) → Q k f → S (alone k f) = λ f is. h.whole (member k f no_members) (is, tt) in
          all_united (codes "allOf") (both_choices k e d) (without k ms)
          (h.list (codes "allOf") (item (alone k e) (item (alone k d) no_items)) refl
          (one e (at Q k ms e all is), (one d new, tt)))
          (all_without Q k ms all)

  all_keyword : (k : Text) (d : Data) (ms : Members) → Q k d → AllMembers Q ms → AllMembers Q (with_keyword k d ms)
  all_keyword k d ms new all = go (is_choice k)
    where
      go : (b : Bool) → AllMembers Q (if b then with_choice k d ms else with_united k d ms)
      go true = all_chosen k d ms new all
      go false = all_united k d ms new all

  all_keywords : (others ms : Members) → AllMembers Q others → AllMembers Q ms → AllMembers Q (with_keywords others ms)
  all_keywords no_members ms new all = all
  all_keywords (member k d others) ms new all =
      all_keywords others (with_keyword k d ms) new.1 (all_keyword k d ms new.0 all)

  all_moved : (ms : Members) → AllMembers Q ms → AllMembers Q (moved ms)
  all_moved ms all = go (get_member (codes "additionalProperties") ms) refl
    where
      go : (o : Option Data) → get_member (codes "additionalProperties") ms ≡ o → AllMembers Q (elim o [
        | None ↦ ms
        | Some d ↦ put (codes "unevaluatedProperties") d (without (codes "additionalProperties") ms)
      ])
      go None is = all
      go (Some d) is =
          all_put Q (codes "unevaluatedProperties") d (without (codes "additionalProperties") ms)
          (h.renamed d (at Q (codes "additionalProperties") ms d all is))
          (all_without Q (codes "additionalProperties") ms all)

  all_moved_beside : (others ms : Members) → AllMembers Q ms → AllMembers Q (moved_beside others ms)
  all_moved_beside others ms all = go (contains_key (codes "unevaluatedProperties") others || has_subschema others)
    where
      go : (b : Bool) → AllMembers Q (if b then moved ms else ms)
      go true = all_moved ms all
      go false = all

  all_opened : (ms : Members) → AllMembers Q ms → AllMembers Q (flatten.opened_keywords ms)
  all_opened ms all = go (contains_key (codes "additionalProperties") ms || contains_key (codes "unevaluatedProperties") ms)
      (has_subschema ms)
    where
      go : (stays combined : Bool) → AllMembers Q (if stays then ms else
          put (if combined then codes "unevaluatedProperties" else codes "additionalProperties") (boolean true) ms)
      go true combined = all
      go false true = all_put Q (codes "unevaluatedProperties") (boolean true) ms h.unevaluated all
      go false false = all_put Q (codes "additionalProperties") (boolean true) ms h.additional all

  pub flattened_kept : (s o : Data) → S s → S o → S (flattened s o)
  flattened_kept s (boolean true) first second = go s first
    where
      go : (d : Data) → S d → S (opened_schema d)
      go null f = f
      go (boolean b) f = f
      go (number n) f = f
      go (string t) f = f
      go (array ds) f = f
      go (object ms) f = h.whole (flatten.opened_keywords ms) (all_opened ms (h.parts ms f))
  flattened_kept s (object others) first second =
      let beside = moved_beside others (members_in s) in
      let start = all_moved_beside others (members_in s) (in_schema s first) in
      h.whole (united_all (members_in s) others)
      (all_keywords (moved_beside beside others) beside (all_moved_beside beside others (h.parts others second)) start)
  flattened_kept s _ first second = first

  -- ---- opening

  opened_at_kept : (k : Text) (s : Data) → S s → S (opened_at k s)
  opened_at_kept k s all = go (closes_by k s)
    where
      go : (b : Bool) → S (if b then removed k s else s)
      go true = without_one k s all
      go false = all

  opened_here_kept : (s : Data) → S s → S (opened_here s)
  opened_here_kept s all =
      opened_at_kept (codes "unevaluatedProperties") (opened_at (codes "additionalProperties") s)
      (opened_at_kept (codes "additionalProperties") s all)

  -- what stands under a keyword, where a schema there keeps it, and the schemas of a list
  keyword_kept : (k : Text) (d : Data) → (S d → S (opened d))
      → (is_listed k with_same_objects ≡ true → Q k d → Q k (forms opening tt d).as_list)
      → Q k d → Q k (form_at (same_object_place k) d (forms opening tt d))
  keyword_kept k d one each all = go (is_listed k with_same_object) (is_listed k with_same_objects) refl refl
    where
      go : (holds lists : Bool) → is_listed k with_same_object ≡ holds → is_listed k with_same_objects ≡ lists
          → Q k (form_at (if holds then OneSchema else if lists then SchemaList else NoSchemas) d
          (forms opening tt d))
      go true lists is also = h.under k (opened d) is (one (h.schema k d is all))
      go false true is also = each also all
      go false false is also = all

  mutual
    unfolding forms in_items in_keywords

    pub opened_kept : (d : Data) → S d → S (opened d)
    opened_kept (boolean b) all = opened_here_kept (boolean b) all
    opened_kept (object ms) all =
        opened_here_kept (object (in_keywords opening tt ms))
        (h.whole (in_keywords opening tt ms) (all_in_keywords ms (h.parts ms all)))
    opened_kept _ all = all

    each_in_items : (ds : Items) → Each ds → Each (in_items opening tt ds)
    each_in_items no_items all = tt
    each_in_items (item d ds) all = (opened_kept d all.0, each_in_items ds all.1)

    list_kept : (k : Text) (d : Data) → is_listed k with_same_objects ≡ true → Q k d
        → Q k (forms opening tt d).as_list
    list_kept k (array ds) is all = h.list k (in_items opening tt ds) is (each_in_items ds (h.items k ds is all))
    list_kept k _ is all = all

    all_in_keywords : (ms : Members) → AllMembers Q ms → AllMembers Q (in_keywords opening tt ms)
    all_in_keywords no_members all = tt
    all_in_keywords (member k d ms) all = (
      keyword_kept k d (λ f. opened_kept d f) (λ is f. list_kept k d is f) all.0,
      all_in_keywords ms all.1,
    )

  pub opened_inside_kept : (d : Data) → S d → S (opened_inside d)
  opened_inside_kept (object ms) all = h.whole (in_keywords opening tt ms) (all_in_keywords ms (h.parts ms all))
  opened_inside_kept _ all = all

  -- ---- units and parts that may be missing

  each_unit : (ds : Items) → Each (unit_objects ds)
  each_unit no_items = tt
  each_unit (item d ds) = go (as_str d) (each_unit ds)
    where
      go : (o : Option Text) → Each (unit_objects ds) → Each (unit_object_first o (unit_objects ds))
      go None rest = rest
      go (Some name) rest = (h.unit name, rest)

  abbrev EachSome : Option Items → Type 0
  EachSome o = (units : Items) → o ≡ Some units → Each units

  each_of : (s : Data) → EachSome (units_of s)
  each_of s = go (has_type (codes "string") s) (option_and_then as_array (get (codes "enum") s))
    where
      go : (b : Bool) (o : Option Items) → EachSome (if b then option_map unit_objects o else None)
      go true None = λ units is. cc
      go true (Some ds) = λ units is. let same : unit_objects ds ≡ units = cc in subst Each same (each_unit ds)
      go false o = λ units is. cc

  changed_kept : (k : Text) (change : Items → Items) (d : Data) → is_listed k with_same_objects ≡ true
      → ((ds : Items) → Each ds → Each (change ds)) → Q k d → Q k (on_list change d)
  changed_kept k change (array ds) is keeps all = h.list k (change ds) is (keeps ds (h.items k ds is all))
  changed_kept k change _ is keeps all = all

  with_units_kept : (units : Items) (s : Data) → Each units → S s → S (with_units units s)
  with_units_kept units s new all =
      h.whole (changed_at (codes "oneOf") (with_items units) (array no_items) ms)
      (go (get_member (codes "oneOf") ms) refl)
    where
      ms : Members
      ms = members_in s

      go : (o : Option Data) → get_member (codes "oneOf") ms ≡ o → AllMembers Q (elim o [
        | None ↦ put (codes "oneOf") (with_items units (array no_items)) ms
        | Some e ↦ replaced (codes "oneOf") (with_items units e) ms
      ])
      go None is =
          all_put Q (codes "oneOf") (array units) ms (h.list (codes "oneOf") units refl new) (in_schema s all)
      go (Some e) is =
          all_replaced Q (codes "oneOf") (with_items units e) ms
          (changed_kept (codes "oneOf") (λ ds. appended ds units) e refl (λ ds f. each_appended ds units f new)
          (at Q (codes "oneOf") ms e (in_schema s all) is)) (in_schema s all)

  list_changed_kept : (k : Text) (change : Items → Items) (s : Data) → is_listed k with_same_objects ≡ true
      → ((ds : Items) → Each ds → Each (change ds)) → S s → S (list_changed_at k change s)
  list_changed_kept k change s is keeps all = go (get k s) refl
    where
      go : (o : Option Data) → get k s ≡ o
          → S (elim o [ None ↦ s | Some d ↦ object (replaced k (on_list change d) (members_in s)) ])
      go None there = all
      go (Some d) there =
          h.whole (replaced k (on_list change d) (members_in s))
          (all_replaced Q k (on_list change d) (members_in s)
          (changed_kept k change d is keeps (found k s d all there)) (in_schema s all))

  each_first : (ds : Items) → Each ds → Each (first_as_objects ds)
  each_first ds all = go (first_units ds) (of_first ds)
    where
      of_first : (es : Items) → EachSome (first_units es)
      of_first no_items = λ units is. cc
      of_first (item d es) = each_of d

      behind : (es : Items) → Each es → Each (behind_first es)
      behind no_items f = tt
      behind (item d es) f = f.1

      go : (o : Option Items) → EachSome o → Each (elim o [ None ↦ ds | Some units ↦ appended (behind_first ds) units ])
      go None each = all
      go (Some units) each = each_appended (behind_first ds) units (behind ds all) (each units refl)

  units_kept : (s : Data) → S s → S (units_as_objects s)
  units_kept s all = go (units_of s) (each_of s)
    where
      go : (o : Option Items) → EachSome o → S (elim o [
        | None ↦ list_changed_at (codes "oneOf") first_as_objects s
        | Some units ↦ with_units units (removed (codes "type") (removed (codes "enum") s))
      ])
      go None each = list_changed_kept (codes "oneOf") first_as_objects s refl each_first all
      go (Some units) each =
          with_units_kept units (removed (codes "type") (removed (codes "enum") s)) (each units refl)
          (without_one (codes "type") (removed (codes "enum") s) (without_one (codes "enum") s all))

  empty : S (object no_members)
  empty = h.whole no_members tt

  each_with_empty : (ds : Items) → Each ds → Each (with_empty_object ds)
  each_with_empty ds all = go (holds_empty_object ds)
    where
      go : (b : Bool) → Each (if b then ds else with_item ds (object no_members))
      go true = all
      go false = each_with_item ds (object no_members) all empty

  choice_kept : (s : Data) → S s → S (choice_or_anything s)
  choice_kept s all = go (get (codes "oneOf") s) refl
    where
      go : (o : Option Data) → get (codes "oneOf") s ≡ o → S (elim o [
        | None ↦ s
        | Some choice ↦ flattened (removed (codes "oneOf") s) (one_or_anything choice)
      ])
      go None there = all
      go (Some choice) there =
          let one = h.whole (member (codes "oneOf") choice no_members) (found (codes "oneOf") s choice all there, tt) in
          let either = item (alone (codes "oneOf") choice) (item (object no_members) no_items) in
          let whole = h.whole (member (codes "anyOf") (array either) no_members)
          (h.list (codes "anyOf") either refl (one, (empty, tt)), tt) in
          flattened_kept (removed (codes "oneOf") s) (one_or_anything choice) (without_one (codes "oneOf") s all) whole

  optional_kept : (b : Bool) (s : Data) → S s → S (optional_where b s)
  optional_kept false s all = all
  optional_kept true s all =
      list_changed_kept (codes "anyOf") with_empty_object (choice_or_anything (removed (codes "required") s)) refl
      each_with_empty (choice_kept (removed (codes "required") s) (without_one (codes "required") s all))

  pub part_kept : (b : Bool) (s : Data) → S s → S (flattened_part b s)
  part_kept b s all =
      opened_kept (optional_where b (units_as_objects s)) (optional_kept b (units_as_objects s) (units_kept s all))
