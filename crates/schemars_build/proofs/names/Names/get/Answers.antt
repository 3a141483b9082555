use Rattle.std.proofs.Common.{◌≡◌, ◌≤◌, ◌<◌, ◌∙◌, ℕ, List, Bool, Some, None, true, false, ap, sym, subst, refl, option_map, slice_get, string_bytes, length, get_or, true≢false}
use Rattle.schemars_build.proofs.Words.{not, name_of, place_of_owner, slice_get_past, slice_get_read}
use Rattle.schemars_build.specs.declared.names.Owner.{Owner}
use Rattle.schemars_build.proofs.NamingLemmas.{is_owner}
use Rattle.schemars_build.proofs.PlacedLemmas.{not_placed, placed_past, placed_own, placed_other}
use Rattle.schemars_build.proofs.names.Names.get.Goals.{In_ok-place, In_ok-owner}
use Rattle.schemars_build.proofs.names.Names.get.Goals as goal

-- the element at a place of a list
at_place : (xs ys : List Owner) (i : ℕ) (o : Owner) → ys ≡ xs → i < length ys → o ≡ get_or ys i o → slice_get xs i ≡ Some o
at_place xs ys i o same less is = ap (λ (os : List Owner). slice_get os i) (sym same) ∙ slice_get_read ys (length ys) i o refl less is

pub returns-in_err-place : goal.returns-in_err-place
returns-in_err-place c =
    let places = c.self.inside.places.items in
    let says : place_of_owner c.args.n c.args.contract places ≡ None =
    ap (place_of_owner c.args.n c.args.contract) (sym c.as_slice.ensures.value) ∙ sym c.in_err-place.ensures in
    ap (option_map (λ s. s.now)) c.from_residual.ensures
    ∙ sym (not_placed c.args.n c.args.contract c.self.inside.owners.items c.self.inside.given.keys (λ m d. place_of_owner m d places)
    c.self.invariant.same c.self.invariant.placed says)
    ∙ ap (name_of c.args.n c.args.contract) c.self.view_is

-- where the place of an owner is known
has_place : (c : goal.In_ok-place) → place_of_owner c.args.n c.args.contract c.self.inside.places.items ≡ Some c.in_ok-place.place
has_place c = ap (place_of_owner c.args.n c.args.contract) (sym c.as_slice.ensures.value) ∙ sym c.in_ok-place.ensures

has_owner : (c : goal.In_ok-owner) → slice_get c.self.inside.owners.items c.in_ok-place.place ≡ Some c.in_ok-owner.owner.now
has_owner c = at_place c.self.inside.owners.items c.deref.result.now c.in_ok-place.place c.in_ok-owner.owner.now c.deref.ensures.value
    c.in_ok-owner.ensures.lookup.3.0 c.in_ok-owner.ensures.lookup.1

pub returns-in_err-owner : goal.returns-in_err-owner
returns-in_err-owner c =
    let owners = c.self.inside.owners.items in
    let places = c.self.inside.places.items in
    let i = c.in_ok-place.place in
    let says = has_place (goal.at.returns-in_err-owner c).In_ok-place in
    let past : length owners ≤ i = subst (λ (os : List Owner). length os ≤ i) c.deref.ensures.value c.in_err-owner.ensures.lookup.3 in
    ap (option_map (λ s. s.now)) c.from_residual-in_err-owner.ensures
    ∙ sym (placed_past c.args.n c.args.contract owners c.self.inside.given.keys (λ m d. place_of_owner m d places) c.self.invariant.same
    c.self.invariant.placed i says (slice_get_past owners i past))
    ∙ ap (name_of c.args.n c.args.contract) c.self.view_is

not_true : (b : Bool) → true ≡ not b → b ≡ false
not_true true e = absurd (true≢false e)
not_true false e = refl

not_false : (b : Bool) → false ≡ not b → b ≡ true
not_false true e = refl
not_false false e = absurd (true≢false (sym e))

pub returns-then-ne : goal.returns-then-ne
returns-then-ne c =
    let owners = c.self.inside.owners.items in
    let places = c.self.inside.places.items in
    let i = c.in_ok-place.place in
    let o = c.in_ok-owner.owner.now in
    let says = has_place (goal.at.returns-then-ne c).In_ok-place in
    let at = has_owner (goal.at.returns-then-ne c).In_ok-owner in
    let is : is_owner c.args.n c.args.contract o ≡ false = not_true (is_owner c.args.n c.args.contract o) c.if-ne.ensures in
    sym (placed_other c.args.n c.args.contract owners c.self.inside.given.keys (λ m d. place_of_owner m d places) c.self.invariant.same
    c.self.invariant.placed i says o at is)
    ∙ ap (name_of c.args.n c.args.contract) c.self.view_is

pub returns : goal.returns
returns c =
    let owners = c.self.inside.owners.items in
    let places = c.self.inside.places.items in
    let i = c.in_ok-place.place in
    let o = c.in_ok-owner.owner.now in
    let says = has_place (goal.at.returns c).In_ok-place in
    let at = has_owner (goal.at.returns c).In_ok-owner in
    let is : is_owner c.args.n c.args.contract o ≡ true = not_false (is_owner c.args.n c.args.contract o) c.if-ne.ensures in
    ap Some c.as_str.ensures.value ∙ ap (option_map string_bytes) c.in_ok-name.ensures.key
    ∙ sym (placed_own c.args.n c.args.contract owners c.self.inside.given.keys (λ m d. place_of_owner m d places) c.self.invariant.same
    c.self.invariant.placed i says o at is)
    ∙ ap (name_of c.args.n c.args.contract) c.self.view_is
