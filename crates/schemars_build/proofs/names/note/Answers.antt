use Rattle.std.proofs.Common.{string_bytes, Result, Ok, Err, subst}
use Rattle.schemars_build.proofs.Words.{OnOk, OnErr, Text, IsNoted}
use Rattle.schemars_build.proofs.TriedLemmas.{noted_unchanged, noted_updates}
use Rattle.schemars_build.proofs.names.note.Goals as goal

either : {A B : Type 0} {X Y P : Type 0} (r : Result A B) → OnOk r X → OnErr r Y → (X → P) → (Y → P) → P
either (Ok x) p q f g = f p
either (Err x) p q f g = g q

pub returns-in-Ok : goal.returns-in-Ok
returns-in-Ok c =
    let key = string_bytes c.in-Ok.key in
    let P : Text → Type 0 = λ base. IsNoted c.args.tried.now base c.args.count c.insert.new.self in
    subst P c.in-Ok.ensures.ok (either c.insert.result c.insert.ensures.updates c.insert.ensures.err
    (λ u. noted_updates c.args.tried.now c.insert.new.self key c.args.count u)
    (λ u. noted_unchanged c.args.tried.now c.insert.new.self key c.args.count u))
