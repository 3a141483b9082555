-- A null `const` stays.
use Rattle.std.proofs.Common.{◌≡◌, Some, sym, ap, ◌∙◌, codes, rules}
use Rattle.schemars_builders.proofs.Words.{Data, null, boolean, number, string, array, object, get, view, members_in, null_in_values, null_in_const}
use Rattle.serde_json.specs.declared.value.Value.{Value, Null, the_lemmas}
use Rattle.schemars_builders.proofs.null.null_in_values.Goals as goal

null_stays : (s : Data) (v : Value) → s ≡ object (members_in s) → Some (view v) ≡ get (codes "const") s → v ≡ Null
    → s ≡ object (null_in_values (members_in s))
null_stays null v is found there = cc
null_stays (boolean b) v is found there = cc
null_stays (number n) v is found there = cc
null_stays (string t) v is found there = cc
null_stays (array ds) v is found there = cc
null_stays (object ms) v is found there =
    let seen : view Null ≡ null = search (rules, the_lemmas) in
    ap (λ o. object (null_in_const o ms)) (ap Some (sym seen ∙ ap view (sym there)) ∙ found)

pub returns-in-Some-Null : goal.returns-in-Some-Null
returns-in-Some-Null c = null_stays c.args.schema.now c.in-Some-Null.field-0.now c.requires c.in-Some-Null.ensures c.in-Some-Null.field-0-is
