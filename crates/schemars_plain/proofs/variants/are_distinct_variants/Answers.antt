-- Names of which none is met a second time all differ.
use Rattle.std.proofs.Common.{ap, subst, ◌∙◌, map, String, Global, string_bytes, Option, MatchOption}
use Rattle.schemars_plain.proofs.Words.{bytes_eq, IsDistinct, IsRepeated}
use Rattle.schemars_plain.proofs.Named.{variants_differ}
use Rattle.schemars_plain.proofs.variants.are_distinct_variants.Goals as goal

pub returns : goal.returns
returns g c =
    let r : Option (String Global) = c.in_ok-first_repeated.field-0 in
    let variants = map g.V.AnyVariant.says c.args.variants.now in
    let names = ap (map (λ n. n.now)) c.deref.ensures.value ∙ c.in_ok-names.ensures in
    let told = subst (λ ks. MatchOption r (IsDistinct bytes_eq ks) (λ s. IsRepeated ks (string_bytes s))) names c.in_ok-first_repeated.ensures in
    variants_differ variants r c.is_none.result c.is_none.ensures told
