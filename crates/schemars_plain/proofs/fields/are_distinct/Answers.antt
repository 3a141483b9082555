-- Names of which none is met a second time all differ.
use Rattle.std.proofs.Common.{ap, subst, ◌∙◌, map, String, Global, string_bytes, Option, MatchOption}
use Rattle.schemars_plain.proofs.Words.{bytes_eq, IsDistinct, IsRepeated, field_of}
use Rattle.schemars_plain.proofs.Named.{fields_differ}
use Rattle.schemars_plain.proofs.fields.are_distinct.Goals as goal

pub returns : goal.returns
returns c =
    let r : Option (String Global) = c.in_ok-first_repeated.field-0 in
    let fields = map (λ f. field_of f.now) c.args.fields.now in
    let names = ap (map (λ n. n.now)) c.deref.ensures.value ∙ c.in_ok-names.ensures in
    let told = subst (λ ks. MatchOption r (IsDistinct bytes_eq ks) (λ s. IsRepeated ks (string_bytes s))) names c.in_ok-first_repeated.ensures in
    fields_differ fields r c.is_none.result c.is_none.ensures told
