use Rattle.std.proofs.Common.{◌≡◌, ◌++◌, ◌∷◌, [], map, ap, sym, ◌∙◌, string_bytes, rules}
use Rattle.schemars_build.proofs.Words.{map-append, without, without_all}
use Rattle.schemars_build.proofs.Members.{without_all-joined}
use Rattle.schemars_build.proofs.registry.take_out.Goals as goal

pub loop-name-preserved : goal.loop-name-preserved
loop-name-preserved g c =
    let k = string_bytes c.in-Some.name in
    let now = g.D.Definitions.kept c.loop-name.definitions in
    let taken : g.D.Definitions.kept c.remove.new.self ≡ without k now =
    c.remove.ensures ∙ ap (λ t. without t now) c.as_str.ensures.value in
    let popped : c.loop-name.names.items ≡ c.pop.new.self.items ++ c.in-Some.name ∷ [] = search rules in
    let names : map string_bytes c.loop-name.names.items ≡ map string_bytes c.pop.new.self.items ++ k ∷ [] =
    ap (map string_bytes) popped ∙ map-append string_bytes c.pop.new.self.items (c.in-Some.name ∷ []) in
    ap (without_all (map string_bytes c.pop.new.self.items)) taken
    ∙ (sym (without_all-joined (map string_bytes c.pop.new.self.items) k now)
    ∙ (ap (λ ks. without_all ks now) (sym names) ∙ c.loop-name.invariant))
