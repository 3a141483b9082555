-- A pointer is a token and a pointer.
use Rattle.std.proofs.Common.{Some, None, ◌<◌, length, sym, ap, ◌∙◌, arith, rules}
use Rattle.schemars_schema.proofs.Words.{strip_prefix_char, object, view, members_view, view-Object, replaced}
use Rattle.serde_json.specs.declared.value.Value.{Object}
use Rattle.schemars_schema.proofs.Containers.{object-as_object}
use Rattle.schemars_schema.proofs.Placings.{below_nothing, below_first, below_is_shorter, placed_missing, placed_refused, placed_inside}
use Rattle.schemars_schema.proofs.schema.placing.+place.Goals as goal

pub returns-in_default : goal.returns-in_default
returns-in_default t c =
    rw (below_nothing c.args.pointer.now (strip_prefix_char 47 c.args.pointer.now None c.in_default.ensures.cases (omega arith)))
    (ap (λ ms. Some (object ms)) (sym c.in_ok-put_members.ensures))

pub place-requires : goal.place-requires
place-requires t c =
    let slash = strip_prefix_char 47 c.args.pointer.now (Some c.in-Some.tokens) c.in-Some.ensures.cases (omega arith) in
    let shorter : length c.split_token.result.1.now < length c.args.pointer.now =
    below_is_shorter c.args.pointer.now c.in-Some.tokens.now c.split_token.result.0.now c.split_token.result.1.now slash
    c.split_token.ensures in
    (search rules, tt)

pub returns-in-Some-as_object_mut : goal.returns-in-Some-as_object_mut
returns-in-Some-as_object_mut t c =
    let slash = strip_prefix_char 47 c.args.pointer.now (Some c.in-Some.tokens) c.in-Some.ensures.cases (omega arith) in
    let all = below_first c.args.pointer.now c.in-Some.tokens.now c.split_token.result.0.now c.split_token.result.1.now slash
    c.split_token.ensures in
    let key = c.as_str.ensures.value ∙ c.in_ok-key.ensures in
    let old = members_view c.args.into.now.entries in
    let written = c.member_mut.follows.holds (Object c.place.new.into)
    ∙ ap (λ d. replaced c.as_str.result.now d old) (view-Object c.place.new.into) in
    let is = object-as_object (view c.in-Some-member_mut.member.now) (members_view c.in-Some-as_object_mut.inner.now.entries)
    c.in-Some-as_object_mut.ensures.value in
    placed_inside c.place.result _ _ _ (members_view c.args.members.entries) old _ _ _ all
    (rw (key, is) at (sym c.in-Some-member_mut.ensures.value)) (rw key at written) c.place.ensures

pub returns-in-None-as_object_mut : goal.returns-in-None-as_object_mut
returns-in-None-as_object_mut t c =
    let slash = strip_prefix_char 47 c.args.pointer.now (Some c.in-Some.tokens) c.in-Some.ensures.cases (omega arith) in
    let all = below_first c.args.pointer.now c.in-Some.tokens.now c.split_token.result.0.now c.split_token.result.1.now slash
    c.split_token.ensures in
    let key = c.as_str.ensures.value ∙ c.in_ok-key.ensures in
    placed_refused _ _ _ (members_view c.args.members.entries) (members_view c.args.into.now.entries)
    (view c.in-Some-member_mut.member.now) all
    (rw key at (sym c.in-Some-member_mut.ensures.value)) (sym c.in-None-as_object_mut.ensures.value)

pub returns-in_ok-_none-in-None : goal.returns-in_ok-_none-in-None
returns-in_ok-_none-in-None t c =
    let slash = strip_prefix_char 47 c.args.pointer.now (Some c.in-Some.tokens) c.in-Some.ensures.cases (omega arith) in
    let all = below_first c.args.pointer.now c.in-Some.tokens.now c.split_token.result.0.now c.split_token.result.1.now slash
    c.split_token.ensures in
    let key = c.as_str.ensures.value ∙ c.in_ok-key.ensures in
    let put_in = c.in_ok-_none-in-None.ensures.ok in
    placed_missing _ _ _ (members_view c.args.members.entries) (members_view c.args.into.now.entries) (view c.in_ok-made-in-None.made)
    all (rw key at (sym c.in-None.ensures.value)) c.in_ok-made-in-None.ensures
    ∙ ap (λ ms. Some (object ms)) (sym (rw (c.in_ok-key.ensures, c.member_mut.follows.holds-at-none) at put_in))
