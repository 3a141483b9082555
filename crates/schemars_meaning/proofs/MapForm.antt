-- What an object with the keywords of a map says, with choices beside them, in each dialect that reads `unevaluatedProperties`.
use Rattle.std.proofs.Common.{◌≡◌, Option, Some, None, Bool, true, false, option_map, refl, sym, ap, ◌∙◌, true≢false}
use Rattle.schemars_meaning.proofs.Words.{or-false, codes, bytes_eq, if◌then◌else◌, ◌&&◌, ◌||◌, not, Data, string, object, Members, get_member, Text, Verdict, both, verdict, all_of, one_of, Context, Judge, Reading, judge, read_data, is_covered, type_says, required_says, properties_say, additional_properties_say, each_says, judged_by_list, both-yes, key, Raw, unevaluated_properties_say, has_schema, judged_beside, all_keywords, says, judge-object, says-agree, IsKeyword, items_none, const_none}

-- the value of each keyword
pub record Keywords : Type 0 where
  pub type : Option Data
  pub properties : Option Data
  pub required : Option Data
  pub additional : Option Data
  pub all : Option Data
  pub one : Option Data
  pub unevaluated : Option Data

abbrev pub look_up : Keywords → Raw
look_up x k =
    if bytes_eq k (codes "type") then x.type
    else if bytes_eq k (codes "properties") then x.properties
    else if bytes_eq k (codes "required") then x.required
    else if bytes_eq k (codes "additionalProperties") then x.additional
    else if bytes_eq k (codes "allOf") then x.all
    else if bytes_eq k (codes "oneOf") then x.one
    else if bytes_eq k (codes "unevaluatedProperties") then x.unevaluated
    else None

module _ (c : Context) (x : Keywords) where
  abbrev pub read : Option Data → Option Reading
  read o = option_map (read_data c) o

  abbrev pub covered : Text → Bool
  covered k = is_covered c.patterns (read x.properties) None k

  abbrev pub beside : Data → Text → Bool
  beside v k = (covered k || has_schema (read x.additional))
      || (judged_by_list (read x.all) v (key k) || (judged_by_list (read x.one) v (key k) || false))

  abbrev pub form_fits : Data → Verdict
  form_fits v =
      both (type_says false x.type None v)
      (both (required_says x.required v)
      (both (properties_say (read x.properties) v)
      (both (additional_properties_say covered (read x.additional) v)
      (both (each_says all_of (read x.all) v)
      (both (each_says one_of (read x.one) v)
      (unevaluated_properties_say true (beside v) (read x.unevaluated) v))))))

alone : (b : Bool) (i j : Judge) → (if not b && false then i else j) ≡ j
alone true i j = refl
alone false i j = refl

-- `type` is `object`, or isn't there
abbrev pub IsObjectType : Option Data → Type 0
IsObjectType o = (b : Bool) (v : Data) → type_says b o None v ≡ type_says false o None v

pub no_type : IsObjectType None
no_type b v = refl

pub object_type : IsObjectType (Some (string (codes "object")))
object_type true v = ap verdict (or-false _)
object_type false v = refl

-- where the switch is on
on_says : (b : Bool) → b ≡ true → (judged : Text → Bool) (o : Option Reading) (v : Data)
    → unevaluated_properties_say b judged o v ≡ unevaluated_properties_say true judged o v
on_says true on judged o v = refl
on_says false on judged o v = absurd (true≢false (sym on))

on_stands : (b : Bool) → b ≡ true → (s : Bool) → b && s ≡ s
on_stands true on s = refl
on_stands false on s = absurd (true≢false (sym on))

pub says-fits : (c : Context) (x : Keywords) → c.dialect.reads_unevaluated ≡ true → IsObjectType x.type → (v : Data)
    → (says c (look_up x)).fits v ≡ form_fits c x v
unfolding says all_keywords
says-fits c x on typed v =
    ap (λ (j : Judge). j.fits v) (alone c.dialect.judges_siblings _ _)
    ∙ rw (
      on_says c.dialect.reads_unevaluated on (λ k. judged_beside c (look_up x) (λ l. option_map (read_data c) (look_up x l)) v (key k))
          (option_map (read_data c) x.unevaluated) v,
      typed c.dialect.reads_nullable v,
      const_none c.dialect.reads_const v,
      items_none c.dialect.reads_prefix_items v,
      both-yes,
    ) refl

pub says-judges : (c : Context) (x : Keywords) → c.dialect.reads_unevaluated ≡ true → (v : Data) (k : Text)
    → (says c (look_up x)).judges v (key k) ≡ beside c x v k || has_schema (read c x x.unevaluated)
unfolding says all_keywords
says-judges c x on v k =
    ap (λ (j : Judge). j.judges v (key k)) (alone c.dialect.judges_siblings _ _)
    ∙ ap (λ s. beside c x v k || s) (on_stands c.dialect.reads_unevaluated on (has_schema (read c x x.unevaluated)))

-- an object with these look-ups at keywords
abbrev pub HasKeywords : Keywords → Members → Type 0
HasKeywords x ms = (k : Text) → IsKeyword k → get_member k ms ≡ look_up x k

pub object-says : (c : Context) (x : Keywords) (ms : Members) → HasKeywords x ms → judge c (object ms) ≡ says c (look_up x)
object-says c x ms has = judge-object c ms ∙ says-agree c (λ k. get_member k ms) (look_up x) has
