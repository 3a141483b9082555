use Rattle.std.proofs.Common.{◌≡◌, Some, None, sym, ap, ◌∙◌, subst, arith, rules}
use Rattle.schemars_impls.proofs.Words.{in_place, map_from, map_id, map_name, Refuses, Registers, place_of, id_at, name_at, reserved}
use Rattle.schemars_types.specs.declared.error.TypesError.TheVariants.{OutOfMemory}
use Rattle.schemars_impls.proofs.Keeping.{keeps-same, keeps-trans, reserved_keeps, place_of-kept, known-two}
use Rattle.schemars_impls.proofs.Following.{id-there}
use Rattle.schemars_impls.proofs.OwnRows.{row-made, made-memory, row_of_keeps}
use Rattle.schemars_impls.proofs.rows.map_from.Goals as goal

pub returns-clause-has : goal.returns-clause-has
returns-clause-has g c =
    let key = g.K.JsonSchema.says in
    let k = c.args.key in
    let id = c.args.id.now in
    let name = c.args.name.now in
    let old = c.args.types.now in
    let mid = c.reserve.new.types in
    let n = c.in_ok-n.n in
    let place : place_of id mid ≡ Some n = c.in_ok-n.ensures.number in
    let key_place : place_of key.id mid
    ≡ Some k = place_of-kept key.id k (reserved_keeps id name old mid c.in_ok-n.ensures.reserves) c.requires in
    let none : c.find.result ≡ None = grind arith in
    let absent : place_of (map_id key.id id) mid ≡ None =
    ap (λ i. place_of i mid) (sym (c.as_str.ensures.value ∙ c.in_ok-made.ensures)) ∙ sym c.find.ensures ∙ none in
    let same : id_at mid n ≡ id = id-there id n mid place in
    let same_key : id_at mid k ≡ key.id = id-there key.id k mid key_place in
    let new = c.map.new.self in
    let m = c.in_ok-number.number in
    let r = subst (λ i. Registers (map_id key.id i) (map_name key.id (name_at mid k) (name_at mid n)) (in_place (map_from k n)) mid new
    m) same
    (subst (λ i. Registers (map_id i (id_at mid n)) (map_name i (name_at mid k) (name_at mid n)) (in_place (map_from k n)) mid new m)
    same_key c.in_ok-number.ensures.ok) in
    let made = row-made id name (map_id key.id id) (λ x. map_name key.id (name_at (reserved id name old) k) x)
    (λ j. in_place (map_from k j)) old mid n c.in_ok-n.ensures.reserves place new m absent
    (subst (λ rows. Registers (map_id key.id id) (map_name key.id (name_at rows k) (name_at mid n)) (in_place (map_from k n)) mid new m)
    c.in_ok-n.ensures.reserves r) in
    made

pub returns-clause-keeps : goal.returns-clause-keeps
returns-clause-keeps g c =
    let key = g.K.JsonSchema.says in
    let k = c.args.key in
    let id = c.args.id.now in
    let name = c.args.name.now in
    let old = c.args.types.now in
    let mid = c.reserve.new.types in
    let n = c.in_ok-n.n in
    let place : place_of id mid ≡ Some n = c.in_ok-n.ensures.number in
    let key_place : place_of key.id mid
    ≡ Some k = place_of-kept key.id k (reserved_keeps id name old mid c.in_ok-n.ensures.reserves) c.requires in
    let none : c.find.result ≡ None = grind arith in
    let absent : place_of (map_id key.id id) mid ≡ None =
    ap (λ i. place_of i mid) (sym (c.as_str.ensures.value ∙ c.in_ok-made.ensures)) ∙ sym c.find.ensures ∙ none in
    let same : id_at mid n ≡ id = id-there id n mid place in
    let same_key : id_at mid k ≡ key.id = id-there key.id k mid key_place in
    let new = c.map.new.self in
    let m = c.in_ok-number.number in
    let r = subst (λ i. Registers (map_id key.id i) (map_name key.id (name_at mid k) (name_at mid n)) (in_place (map_from k n)) mid new
    m) same
    (subst (λ i. Registers (map_id i (id_at mid n)) (map_name i (name_at mid k) (name_at mid n)) (in_place (map_from k n)) mid new m)
    same_key c.in_ok-number.ensures.ok) in
    let made = row-made id name (map_id key.id id) (λ x. map_name key.id (name_at (reserved id name old) k) x)
    (λ j. in_place (map_from k j)) old mid n c.in_ok-n.ensures.reserves place new m absent
    (subst (λ rows. Registers (map_id key.id id) (map_name key.id (name_at rows k) (name_at mid n)) (in_place (map_from k n)) mid new m)
    c.in_ok-n.ensures.reserves r) in
    row_of_keeps made

pub returns-in_err-number-clause-memory : goal.returns-in_err-number-clause-memory
returns-in_err-number-clause-memory g c =
    let key = g.K.JsonSchema.says in
    let k = c.args.key in
    let id = c.args.id.now in
    let name = c.args.name.now in
    let old = c.args.types.now in
    let mid = c.reserve.new.types in
    let n = c.in_ok-n.n in
    let place : place_of id mid ≡ Some n = c.in_ok-n.ensures.number in
    let key_place : place_of key.id mid
    ≡ Some k = place_of-kept key.id k (reserved_keeps id name old mid c.in_ok-n.ensures.reserves) c.requires in
    let none : c.find.result ≡ None = grind arith in
    let absent : place_of (map_id key.id id) mid ≡ None =
    ap (λ i. place_of i mid) (sym (c.as_str.ensures.value ∙ c.in_ok-made.ensures)) ∙ sym c.find.ensures ∙ none in
    let same : id_at mid n ≡ id = id-there id n mid place in
    let same_key : id_at mid k ≡ key.id = id-there key.id k mid key_place in
    let e = c.in_err-number.field-0.0 in
    let refuses = subst (λ i. Refuses (map_id key.id i) (in_place (map_from k n)) mid e) same
    (subst (λ i. Refuses (map_id i (id_at mid n)) (in_place (map_from k n)) mid e) same_key c.in_err-number.ensures.refused) in
    let why : e ≡ OutOfMemory = made-memory (map_id key.id id) (in_place (map_from k n)) mid e absent
    (known-two key.id id mid k n key_place place) refuses in
    search rules

pub returns-in_err-number-clause-keeps : goal.returns-in_err-number-clause-keeps
returns-in_err-number-clause-keeps g c =
    keeps-trans (reserved_keeps c.args.id.now c.args.name.now c.args.types.now c.reserve.new.types c.in_ok-n.ensures.reserves)
    (keeps-same _ _ c.in_err-number.ensures.err)
