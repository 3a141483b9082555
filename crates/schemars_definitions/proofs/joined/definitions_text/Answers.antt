use Rattle.schemars_definitions.proofs.Words.{definitions_in, each_made}
use Rattle.schemars_definitions.proofs.JoinedTexts.{braced_text}
use Rattle.schemars_definitions.proofs.joined.definitions_text.Goals as goal

pub returns : goal.returns
unfolding lib.Utf8.encode
returns g c = λ none.
    braced_text (each_made g.C.Change.made (definitions_in c.args.definitions.entries)) _ _ _ _ c.in_ok-out.ensures.bytes
    c.in_ok-push.ensures.bytes (c.in_ok-push_definitions.ensures none) c.in_ok-push-2.ensures.bytes
