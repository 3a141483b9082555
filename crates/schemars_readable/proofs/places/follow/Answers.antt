-- A reference is followed once.
use Rattle.std.proofs.Common.{rules, ◌≡◌, ◌∙◌, ◌&&◌, ◌||◌, true, bytes_eq, string_bytes, ap}
use Rattle.schemars_readable.proofs.Words.{list_any, view, members_view, standing, reference_of}
use Rattle.schemars_readable.proofs.Following.{was_followed, all_added, followed_more}
use Rattle.schemars_readable.proofs.Sets.{put_text}
use Rattle.schemars_readable.proofs.places.follow.Goals as goal

pub returns-then-contains-clause-grows : goal.returns-then-contains-clause-grows
returns-then-contains-clause-grows c =
    was_followed (view c.args.document.now) (reference_of (members_view c.args.keywords.now.entries)) c.in-Some.reference.now
    c.args.followed.now.keys (standing c.args.places.now.items) (search rules) c.requires (search rules)

pub returns-clause-grows : goal.returns-clause-grows
returns-clause-grows c =
    all_added (view c.args.document.now) (reference_of (members_view c.args.keywords.now.entries)) c.in-Some.reference.now
    (standing c.args.places.now.items) (standing c.add_referred.new.places.items) (search rules) c.in_ok-add_referred.ensures

pub returns-clause-followed : goal.returns-clause-followed
returns-clause-followed c =
    let k = c.in_ok-from_str.field-0 in
    let same : string_bytes k ≡ c.in-Some.reference.now = search rules in
    followed_more (view c.args.document.now) c.in-Some.reference.now c.args.followed.now.keys c.insert.new.self.keys
    (standing c.args.places.now.items) (standing c.add_referred.new.places.items)
    (λ t. put_text c.args.followed.now c.insert.new.self k t c.in_ok-insert.field-0 (search rules) (search rules)
    ∙ ap (λ u. list_any (λ x. bytes_eq t (string_bytes x)) c.args.followed.now.keys || (bytes_eq t u && true)) same)
    c.requires c.in_ok-add_referred.ensures
