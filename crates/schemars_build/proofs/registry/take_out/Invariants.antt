use Rattle.std.proofs.Common.{◌≡◌, map, length, string_bytes}
use Rattle.schemars_build.specs.Registry.{without_all}
use Rattle.schemars_build.proofs.registry.take_out.Given as goal

abbrev pub invariant-loop-name : goal.invariant-loop-name
invariant-loop-name g l =
    without_all (map string_bytes l.names.items) (g.D.Definitions.kept l.definitions)
    ≡ without_all (map string_bytes l.fn.names.items) (g.D.Definitions.kept l.fn.definitions)

abbrev pub decreases-loop-name : goal.decreases-loop-name
decreases-loop-name g l = length l.names.items
