-- A format less changes nothing of what is accepted.
use Rattle.std.proofs.Common.{◌≡◌, ◌≢◌, inl, Bool, true, false, codes, refl, ◌∙◌, String, Global}
use Rattle.schemars_laws.proofs.Words.{if◌then◌else◌, option_and_then, BTreeSet, Data, boolean, object, Members, get_member, as_str, Text, IsSchema, without, removed, Dialect, Context, judge, truth_value, judge-agree, apart, in_keywords, format_rules, format_stays, read_data}
use Rattle.schemars_laws.proofs.Moved.{Moves}
use Rattle.schemars_laws.proofs.Looked.{without-other}
use Rattle.schemars_laws.proofs.Examples.{same-dialect}

module _ (P : Data → Type 0) (ms : Members) (stay : P (object ms)) (go_off : P (object (without (codes "format") ms))) where
  either : (b : Bool) → P (if b then object ms else removed (codes "format") (object ms))
  either true = stay
  either false = go_off

judge-format : (c : Context) (ms : Members) → judge c (object (without (codes "format") ms)) ≡ judge c (object ms)
judge-format c ms =
    judge-agree c (without (codes "format") ms) ms (λ k key. without-other (codes "format") k ms (apart k (codes "format") key refl))

pub truth-judge : (c : Context) (b : Bool) → judge c (boolean b) ≡ truth_value b
unfolding read_data
truth-judge c b = refl

pub formats : (allowed : BTreeSet (String Global)) (key : Text) (dialect : Dialect) (Q : Members → Type 0) → key ≢ codes "format"
    → Moves (format_rules allowed) key dialect dialect Q
formats allowed key dialect Q other = record {
  rewrites = record {
    place = λ r k d. inl refl;
    schema = λ r s is. schema r s is;
    of_truth = λ c r b is. truth-judge c b;
    of_object = λ c r ms is q.
        either (λ s. judge c s ≡ judge c (object (in_keywords (format_rules allowed) r ms))) (in_keywords (format_rules allowed) r ms) refl
        (judge-format c (in_keywords (format_rules allowed) r ms))
        (format_stays r allowed (option_and_then as_str (get_member (codes "format") (in_keywords (format_rules allowed) r ms))))
        ∙ same-dialect c dialect (in_keywords (format_rules allowed) r ms) is;
  };
  definitions = λ r ms.
      either (λ s. (ns : Members) × (s ≡ object ns) × (get_member key ns ≡ get_member key ms)) ms (ms, refl, refl)
      (without (codes "format") ms, refl, without-other (codes "format") key ms other)
      (format_stays r allowed (option_and_then as_str (get_member (codes "format") ms)));
}
  where
    schema : (r : _) (s : Data) → IsSchema s → IsSchema ((format_rules allowed).finish r s)
    schema r (boolean b) is = tt
    schema r (object ms) is = either IsSchema ms tt tt (format_stays r allowed (option_and_then as_str (get_member (codes "format") ms)))
    schema r _ is = absurd is
