use Rattle.std.proofs.Common.{string_bytes, arith}
use Rattle.schemars_definitions.proofs.Words.{definitions_in, each_made}
use Rattle.schemars_definitions.proofs.Floats.{place_whole}
use Rattle.schemars_definitions.proofs.JoinedTexts.{joined_text}
use Rattle.schemars_definitions.proofs.joined.joined.Goals as goal

pub returns : goal.returns
returns g c = λ none.
    let defs = each_made g.C.Change.made (definitions_in c.args.definitions.entries) in
    let floats = place_whole c.args.key.now defs c.args.own.now c.requires.place.empty none in
    let whole = joined_text c.args.key.now defs c.args.own.now (string_bytes c.in_ok-out.out)
    (string_bytes c.pop-end_of_object.new.self) (string_bytes c.pop-end_of_place.new.self) _ _ c.requires.place
    (c.in_ok-out.ensures.ordered floats.1)
    (omega (arith, c.in_ok-out.out.bytes.ok.0)) c.pop-end_of_object.ensures.ascii_bytes
    (omega (arith, c.pop-end_of_object.new.self.bytes.ok.0)) c.pop-end_of_place.ensures.ascii_bytes in
    cc (
      whole,
      c.in_ok-reserve_exact.ensures.bytes,
      c.in_ok-push_definitions.ensures floats.0,
      c.in_ok-push_str.ensures.bytes,
    )
