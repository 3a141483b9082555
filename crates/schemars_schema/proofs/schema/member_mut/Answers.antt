-- What a map's `get_mut` says, in the words of members.
use Rattle.std.proofs.Common.{refl, ap, ◌∙◌, option_map}
use Rattle.schemars_schema.proofs.Words.{view, members_view, view-lookup, view_of_mut}
use Rattle.schemars_schema.proofs.MapEdits.{members_view-set_value}
use Rattle.schemars_schema.proofs.schema.member_mut.Goals as goal

pub returns : goal.returns
returns c =
    let key = c.args.key.now in
    let entries = c.args.members.now.entries in (
      (
        refl,
        λ w. ap members_view (c.get_mut.follows.holds w).0 ∙ members_view-set_value key entries w,
        ap (λ m. members_view m.entries) c.get_mut.follows.holds-at-none,
      ),
      view_of_mut c.get_mut.result ∙ ap (option_map view) c.get_mut.ensures.value ∙ view-lookup key entries,
    )
