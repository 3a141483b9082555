-- `example` in place of `examples` changes nothing of what is accepted.
use Rattle.std.proofs.Common.{◌≡◌, ◌≢◌, Option, Some, None, Bool, codes, refl, ap, ◌∙◌}
use Rattle.schemars_laws.proofs.Words.{Data, null, boolean, number, string, array, object, no_items, item, Members, put, get_member, get_member-put_other, Text, IsSchema, without, Dialect, Context, judge, keywords, truth_value, read_data, read_members, reading_at, judge-agree, judge-put, apart, first_as_example, with_single_example}
use Rattle.schemars_laws.proofs.Looked.{without-other, walked, Change}

schema-example : (o : Option Data) (s : Data) → IsSchema s → IsSchema (first_as_example o s)
schema-example None s is = is
schema-example (Some null) s is = is
schema-example (Some (boolean b)) s is = is
schema-example (Some (number n)) s is = is
schema-example (Some (string t)) s is = is
schema-example (Some (array no_items)) s is = is
schema-example (Some (array (item d ds))) s is = tt
schema-example (Some (object ms)) s is = is

definitions-stay : (o : Option Data) (key : Text) (ms : Members) → key ≢ codes "example" → key ≢ codes "examples"
    → (ns : Members) × (first_as_example o (object (without (codes "examples") ms)) ≡ object ns) × (get_member key ns ≡ get_member key ms)
definitions-stay o key ms one all = go o
  where
    old : Members
    old = without (codes "examples") ms

    go : (o : Option Data) → (ns : Members) × (first_as_example o (object old) ≡ object ns) × (get_member key ns ≡ get_member key ms)
    go None = (old, refl, without-other (codes "examples") key ms all)
    go (Some null) = (old, refl, without-other (codes "examples") key ms all)
    go (Some (boolean b)) = (old, refl, without-other (codes "examples") key ms all)
    go (Some (number n)) = (old, refl, without-other (codes "examples") key ms all)
    go (Some (string t)) = (old, refl, without-other (codes "examples") key ms all)
    go (Some (array no_items)) = (old, refl, without-other (codes "examples") key ms all)
    go (Some (array (item d ds))) = (
      put (codes "example") d old,
      refl,
      get_member-put_other key (codes "example") d old one
          ∙ without-other (codes "examples") key ms all,
    )
    go (Some (object es)) = (old, refl, without-other (codes "examples") key ms all)

judge-example : (c : Context) (o : Option Data) (ms : Members) → judge c (first_as_example o (object ms)) ≡ judge c (object ms)
judge-example c None ms = refl
judge-example c (Some null) ms = refl
judge-example c (Some (boolean b)) ms = refl
judge-example c (Some (number n)) ms = refl
judge-example c (Some (string t)) ms = refl
judge-example c (Some (array no_items)) ms = refl
judge-example c (Some (array (item d ds))) ms = judge-put c (codes "example") d ms refl
judge-example c (Some (object es)) ms = refl

judge-single : (c : Context) (ms : Members) → judge c (with_single_example (object ms)) ≡ judge c (object ms)
judge-single c ms =
    judge-example c (get_member (codes "examples") ms) (without (codes "examples") ms)
    ∙ judge-agree c (without (codes "examples") ms) ms
    (λ k key. without-other (codes "examples") k ms (apart k (codes "examples") key refl))

schema-single : (s : Data) → IsSchema s → IsSchema (with_single_example s)
schema-single (boolean b) is = tt
schema-single (object ms) is = schema-example (get_member (codes "examples") ms) (object (without (codes "examples") ms)) tt
schema-single _ is = absurd is

pub same-dialect : (c : Context) (dialect : Dialect) (ms : Members) → c.dialect ≡ dialect
    → judge c (object ms) ≡ keywords (record c { dialect = dialect }) (λ k. get_member k ms) (reading_at (read_members c ms))
unfolding read_data
same-dialect c dialect ms is = ap (λ d. keywords (record c { dialect = d }) (λ k. get_member k ms) (reading_at (read_members c ms))) is

truth-single : (c : Context) (b : Bool) → judge c (with_single_example (boolean b)) ≡ truth_value b
unfolding read_data
truth-single c b = refl

-- where the definitions stand elsewhere than the examples, all that is asked of a change
pub single_example : (key : Text) (dialect : Dialect) (Q : Members → Type 0) → key ≢ codes "example" → key ≢ codes "examples"
    → Change with_single_example key dialect dialect Q
single_example key dialect Q one all = record {
  schema = schema-single;
  of_truth = λ c b is. truth-single c b;
  of_object = λ c ms is q. judge-single c (walked with_single_example ms)
      ∙ same-dialect c dialect (walked with_single_example ms) is;
  definitions = λ ms. definitions-stay (get_member (codes "examples") ms) key ms one all;
}
