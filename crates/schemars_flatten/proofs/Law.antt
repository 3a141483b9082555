-- The law of `flatten`: what two schemas of objects in one say.
use Rattle.std.proofs.Common.{◌≡◌, Option, Some, None, Bool, true, false, refl, sym, ap, ◌∙◌, true≢false, option_map}
use Rattle.schemars_flatten.proofs.Words.{bytes_eq-Decides, and_parts, and-false, bytes_eq, codes, if◌then◌else◌, not, Data, null, boolean, number, string, array, object, Members, get_member, as_str, Text, Verdict, both, Context, Raw, type_says, required_says, properties_say, judge, read_data, all_keywords, both-yes, both-middle, IsKeyword, says, says-agree, judge-object, keyword-plain, items_none, const_none, unevaluated_none, is_text, with_keywords, flattened, has_keys_once, is_object_keyword, are_object_keywords, are_schemas_by_name, are_texts, are_apart, AreJoinable, AcceptsBoth}
use Rattle.schemars_flatten.proofs.Lookups.{united_option, keyword_at, lacks, keywords_at, united_plain}
use Rattle.schemars_flatten.proofs.Verdicts.{Holds, members_at, type_both, required_both, properties_both}

-- ---- an object with these three keywords

abbrev object_raw : Option Data → Option Data → Option Data → Raw
object_raw type properties required k =
    if bytes_eq k (codes "type") then type
    else if bytes_eq k (codes "properties") then properties
    else if bytes_eq k (codes "required") then required
    else None

abbrev object_fits : Context → Option Data → Option Data → Option Data → Data → Verdict
object_fits c type properties required v =
    both (type_says c.dialect.reads_nullable type None v)
    (both (required_says required v) (properties_say (option_map (read_data c) properties) v))

object_says : (c : Context) (type properties required : Option Data) (v : Data)
    → (says c (object_raw type properties required)).fits v ≡ object_fits c type properties required v
unfolding says all_keywords
object_says c type properties required v =
    rw (
      and-false (not c.dialect.judges_siblings),
      const_none c.dialect.reads_const v,
      items_none c.dialect.reads_prefix_items v,
      unevaluated_none c.dialect.reads_unevaluated _ v,
      both-yes (properties_say (option_map (read_data c) properties) v),
    ) refl

-- ---- look-ups of the two and of the whole

silent_at : (k : Text) (ms : Members) → are_object_keywords ms ≡ true → IsKeyword k → bytes_eq k (codes "type") ≡ false
    → bytes_eq k (codes "properties") ≡ false → bytes_eq k (codes "required") ≡ false → get_member k ms ≡ None
silent_at k ms all is no_type no_properties no_required =
    lacks k ms all (λ d. rw (no_type, no_properties, no_required) (keyword-plain k is))

one_agrees : (ms : Members) → are_object_keywords ms ≡ true → (k : Text) → IsKeyword k → get_member k ms
    ≡ object_raw (get_member (codes "type") ms) (get_member (codes "properties") ms)
    (get_member (codes "required") ms) k
one_agrees ms all k is = go (bytes_eq k (codes "type")) (bytes_eq k (codes "properties"))
    (bytes_eq k (codes "required")) refl refl refl
  where
    go : (t p q : Bool) → bytes_eq k (codes "type") ≡ t → bytes_eq k (codes "properties") ≡ p
        → bytes_eq k (codes "required") ≡ q
        → get_member k ms ≡ (if t then get_member (codes "type") ms else if p then get_member (codes "properties") ms
        else if q then get_member (codes "required") ms else None)
    go true p q x y z = ap (λ l. get_member l ms) ((bytes_eq-Decides k (codes "type")).0 x)
    go false true q x y z = ap (λ l. get_member l ms) ((bytes_eq-Decides k (codes "properties")).0 y)
    go false false true x y z = ap (λ l. get_member l ms) ((bytes_eq-Decides k (codes "required")).0 z)
    go false false false x y z = silent_at k ms all is x y z

module _ (ms ns : Members) (first : are_object_keywords ms ≡ true) (second : are_object_keywords ns ≡ true)
    (once : has_keys_once ns ≡ true) where
  abbrev in_both : Text → Option Data
  in_both k = united_option k (get_member k ms) (get_member k ns)

  both_agree : (k : Text) → IsKeyword k → get_member k (with_keywords ns ms)
      ≡ object_raw (in_both (codes "type")) (in_both (codes "properties")) (in_both (codes "required")) k
  both_agree k is =
      keywords_at k ns ms second once
      ∙ go (bytes_eq k (codes "type")) (bytes_eq k (codes "properties")) (bytes_eq k (codes "required")) refl refl refl
    where
      go : (t p q : Bool) → bytes_eq k (codes "type") ≡ t → bytes_eq k (codes "properties") ≡ p
          → bytes_eq k (codes "required") ≡ q
          → in_both k ≡ (if t then in_both (codes "type") else if p then in_both (codes "properties")
          else if q then in_both (codes "required") else None)
      go true p q x y z = ap in_both ((bytes_eq-Decides k (codes "type")).0 x)
      go false true q x y z = ap in_both ((bytes_eq-Decides k (codes "properties")).0 y)
      go false false true x y z = ap in_both ((bytes_eq-Decides k (codes "required")).0 z)
      go false false false x y z = rw (silent_at k ms first is x y z, silent_at k ns second is x y z) refl

holds_at : (q : Text) (form : Data → Bool) (ms : Members) → are_object_keywords ms ≡ true
    → ((d : Data) → is_object_keyword q d ≡ form d) → Holds form (get_member q ms)
holds_at q form ms all same = go (get_member q ms) refl
  where
    go : (o : Option Data) → get_member q ms ≡ o → Holds form o
    go None is = tt
    go (Some d) is = sym (same d) ∙ keyword_at q ms d all is

one_fits : (c : Context) (ms : Members) → are_object_keywords ms ≡ true → (v : Data) → (judge c (object ms)).fits v
    ≡ object_fits c (get_member (codes "type") ms) (get_member (codes "properties") ms)
    (get_member (codes "required") ms) v
one_fits c ms all v =
    ap (λ j. j.fits v) (judge-object c ms ∙ says-agree c _ _ (λ k is. one_agrees ms all k is))
    ∙ object_says c (get_member (codes "type") ms) (get_member (codes "properties") ms)
    (get_member (codes "required") ms) v

keywords_fit : (c : Context) (ms ns : Members) → are_object_keywords ms ≡ true → are_object_keywords ns ≡ true
    → has_keys_once ns ≡ true
    → are_apart (members_at (get_member (codes "properties") ms)) (members_at (get_member (codes "properties") ns))
    ≡ true → (v : Data)
    → (judge c (object (with_keywords ns ms))).fits v
    ≡ both ((judge c (object ms)).fits v) ((judge c (object ns)).fits v)
keywords_fit c ms ns first second once apart v =
    let t1 = get_member (codes "type") ms in
    let t2 = get_member (codes "type") ns in
    let p1 = get_member (codes "properties") ms in
    let p2 = get_member (codes "properties") ns in
    let q1 = get_member (codes "required") ms in
    let q2 = get_member (codes "required") ns in
    let says_type : Option Data → Verdict = λ o. type_says c.dialect.reads_nullable o None v in
    let says_properties : Option Data → Verdict = λ o. properties_say (option_map (read_data c) o) v in
    let says_required : Option Data → Verdict = λ o. required_says o v in
    let names_object : Data → Bool = λ d. is_text (codes "object") (as_str d) in
    let types = type_both t1 t2 (holds_at (codes "type") names_object ms first (λ d. refl))
    (holds_at (codes "type") names_object ns second (λ d. refl)) c.dialect.reads_nullable v in
    let required = required_both q1 q2 (holds_at (codes "required") are_texts ms first (λ d. refl))
    (holds_at (codes "required") are_texts ns second (λ d. refl)) v in
    let properties = properties_both c p1 p2 (holds_at (codes "properties") are_schemas_by_name ms first (λ d. refl))
    (holds_at (codes "properties") are_schemas_by_name ns second (λ d. refl)) apart v in
    ap (λ j. j.fits v) (judge-object c (with_keywords ns ms)
    ∙ says-agree c _ _ (λ k is. both_agree ms ns first second once k is))
    ∙ (object_says c (united_option (codes "type") t1 t2) (united_option (codes "properties") p1 p2)
    (united_option (codes "required") q1 q2) v
    ∙ ((λ i. both (types i) (both (required i) (properties i)))
    ∙ (ap (both (both (says_type t1) (says_type t2)))
    (both-middle (says_required q1) (says_required q2) (says_properties p1) (says_properties p2))
    ∙ (both-middle (says_type t1) (says_type t2) (both (says_required q1) (says_properties p1))
    (both (says_required q2) (says_properties p2))
    ∙ sym (λ i. both (one_fits c ms first v i) (one_fits c ns second v i))))))

-- ---- the law

flattened_fits : (s o : Data) → AreJoinable s o → AcceptsBoth s o (flattened s o)
flattened_fits (object ms) (object ns) joinable c v =
    let first = and_parts (are_object_keywords ms) (has_keys_once ms) joinable.first in
    let second = and_parts (are_object_keywords ns) (has_keys_once ns) joinable.second in
    ap (λ x. (judge c (object x)).fits v) (united_plain ms ns first.0 second.0)
    ∙ keywords_fit c ms ns first.0 second.0 second.1 joinable.apart v
flattened_fits (object ms) null joinable c v = absurd (true≢false (sym joinable.second))
flattened_fits (object ms) (boolean b) joinable c v = absurd (true≢false (sym joinable.second))
flattened_fits (object ms) (number n) joinable c v = absurd (true≢false (sym joinable.second))
flattened_fits (object ms) (string t) joinable c v = absurd (true≢false (sym joinable.second))
flattened_fits (object ms) (array ds) joinable c v = absurd (true≢false (sym joinable.second))
flattened_fits _ o joinable c v = absurd (true≢false (sym joinable.first))

pub flattened-law : (s o new : Data) → new ≡ flattened s o → AreJoinable s o → AcceptsBoth s o new
flattened-law s o new is joinable c v = rw is (flattened_fits s o joinable c v)
