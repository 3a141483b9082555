use Rattle.std.proofs.Common.{◌≡◌, ◌++◌, ◌∷◌, [], List, Bool, true, false, Some, if◌then◌else◌, length, string_bytes, length-append, ap, ◌∙◌, sym, arith, subst}
use Rattle.schemars_build.proofs.Words.{list_any, string_eq, Naming, name_of, is_used, candidate, naming_of, place_of_owner, ArePlaced}
use Rattle.schemars_build.specs.declared.names.Owner.{Owner}
use Rattle.schemars_build.proofs.NamingLemmas.{is_owner, no_owner, is_used-naming_of, naming_of-push}
use Rattle.schemars_build.proofs.PlacedLemmas.{placed_push, placed_same}
use Rattle.schemars_build.proofs.TriedLemmas.{used_more}
use Rattle.schemars_build.proofs.names.Names.push.Goals as goal

pub invariant_of-self : goal.invariant_of-self
invariant_of-self c = record {
  same = c.self.invariant.same;
  placed = placed_same c.self.inside.owners.items c.self.inside.owners.items (λ m d. place_of_owner m d c.self.inside.places.items)
      (λ m d. place_of_owner m d c.extend.new.places.items)
      (λ i. c.self.inside.owners.items) c.in_err-extend.ensures.same c.self.invariant.placed;
  used = c.self.invariant.used;
}

pub invariant_of-self-in_err-reserve : goal.invariant_of-self-in_err-reserve
invariant_of-self-in_err-reserve c = record {
  same = ap length c.in_err-reserve.ensures.items ∙ c.self.invariant.same;
  placed = placed_same c.self.inside.owners.items c.reserve.new.self.items (λ m d. place_of_owner m d c.self.inside.places.items)
      (λ m d. place_of_owner m d c.extend.new.places.items) c.in_err-reserve.ensures.items c.in_ok-extend.ensures.same
      c.self.invariant.placed;
  used = λ base count found j less. subst (λ (os : List Owner). is_used (candidate base j) (naming_of os c.self.inside.given.keys) ≡ true)
      (sym c.in_err-reserve.ensures.items) (c.self.invariant.used base count found j less);
}

pub invariant_of-self-in_err-insert : goal.invariant_of-self-in_err-insert
invariant_of-self-in_err-insert c =
    let given = c.in_err-insert.ensures.err in
    let owners = c.in_ok-reserve.ensures.items in
    record {
      same = ap length owners ∙ (c.self.invariant.same ∙ sym (ap length given));
      placed = placed_same c.self.inside.owners.items c.reserve.new.self.items (λ m d. place_of_owner m d c.self.inside.places.items)
          (λ m d. place_of_owner m d c.extend.new.places.items) owners c.in_ok-extend.ensures.same c.self.invariant.placed;
      used = λ base count found j less. (λ i. is_used (candidate base j) (naming_of (owners i) (given i)))
          ∙ c.self.invariant.used base count found j less;
    }

no_owner_yet : (c : goal.After-put_place) → list_any (is_owner c.args.n c.args.contract) c.self.inside.owners.items ≡ false
no_owner_yet c = no_owner c.args.n c.args.contract c.self.inside.owners.items c.self.inside.given.keys c.self.invariant.same
    (ap (name_of c.args.n c.args.contract) c.self.view_is ∙ c.requires.unnamed)

joined_owners : (c : goal.After-put_place) → c.push.new.self.items
    ≡ c.self.inside.owners.items ++ (record { row = c.args.n; contract = c.args.contract }) ∷ []
joined_owners c = c.in_ok-push.ensures.items
    ∙ ap (λ (os : List Owner). os ++ (record { row = c.args.n; contract = c.args.contract }) ∷ []) c.in_ok-reserve.ensures.items

joined_names : (c : goal.After-put_place) → c.insert.new.self.keys ≡ c.self.inside.given.keys ++ c.args.name ∷ []
joined_names c =
    let none : list_any (string_eq c.args.name) c.self.inside.given.keys ≡ false =
    is_used-naming_of (string_bytes c.args.name) c.self.inside.owners.items c.self.inside.given.keys c.self.invariant.same
    ∙ ap (is_used (string_bytes c.args.name)) c.self.view_is ∙ c.requires.unused in
    c.in_ok-insert.ensures.keys
    ∙ ap (λ (b : Bool). if b then c.self.inside.given.keys else c.self.inside.given.keys ++ c.args.name ∷ []) none

joined_naming : (c : goal.After-put_place) → naming_of c.push.new.self.items c.insert.new.self.keys
    ≡ naming_of c.self.inside.owners.items c.self.inside.given.keys
    ++ (record { row = c.args.n; contract = c.args.contract; name = string_bytes c.args.name }) ∷ []
joined_naming c = (λ i. naming_of (joined_owners c i) (joined_names c i))
    ∙ naming_of-push c.self.inside.owners.items c.self.inside.given.keys (record { row = c.args.n; contract = c.args.contract })
    c.args.name c.self.invariant.same

pub invariant_of-self-2 : goal.invariant_of-self-2
invariant_of-self-2 c =
    let p = c in
    record {
      same = ap length (joined_owners p)
          ∙ omega (
            arith,
            p.self.invariant.same,
            length-append p.self.inside.owners.items ((record { row = p.args.n; contract = p.args.contract }) ∷ []),
            length-append p.self.inside.given.keys (p.args.name ∷ []),
          )
          ∙ sym (ap length (joined_names p));
      placed =
          let owners = p.self.inside.owners.items in
          let room = placed_same owners owners (λ m d. place_of_owner m d p.self.inside.places.items)
          (λ m d. place_of_owner m d p.extend.new.places.items)
          (λ i. owners) p.in_ok-extend.ensures.same p.self.invariant.placed in
          let last : p.len-place.result ≡ length owners = p.len-place.ensures.len ∙ sym p.self.invariant.same in
          subst (λ (os : List Owner). ArePlaced os (λ m d. place_of_owner m d p.put_place.new.places.items)) (sym (joined_owners p))
          (placed_push owners (λ m d. place_of_owner m d p.extend.new.places.items) (λ m d. place_of_owner m d p.put_place.new.places.items)
          p.args.n p.args.contract room (no_owner_yet p) (p.put_place.ensures.here ∙ ap Some last) p.put_place.ensures.others);
      used = λ base count found j less.
          subst (λ (names : Naming). is_used (candidate base j) names ≡ true) (sym (joined_naming p))
          (used_more (candidate base j) (naming_of p.self.inside.owners.items p.self.inside.given.keys)
          ((record { row = p.args.n; contract = p.args.contract; name = string_bytes p.args.name }) ∷ [])
          (p.self.invariant.used base count found j less));
    }

pub returns-clause-ok : goal.returns-clause-ok
returns-clause-ok c = joined_naming c
    ∙ ap (λ (names : Naming). names ++ (record { row = c.args.n; contract = c.args.contract; name = string_bytes c.args.name }) ∷ [])
    c.self.view_is
