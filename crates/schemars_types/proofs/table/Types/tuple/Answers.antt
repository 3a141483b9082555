-- Without parts it has texts of its own, and else they are of its parts.
use Rattle.std.proofs.Common.{◌≡◌, ℕ, ◌==◌, List, [], ◌∷◌, ◌++◌, true, false, length, map, ap, ◌∙◌, sym, refl, arith, codes, string_bytes}
use Rattle.schemars_types.proofs.Words.{join_by, nat_tests, err_from_is_err_and, tuple, tuple_id, tuple_name, Row, id_at, name_at, unknown_in, Text}
use Rattle.schemars_types.proofs.Registered.{unknown_among}
use Rattle.schemars_types.proofs.table.Types.tuple.Goals as goal

no_parts : (ns : List ℕ) → (length ns == 0) ≡ true → ns ≡ []
no_parts [] is = refl
no_parts (n ∷ ns) is = let never : ⊥ = grind (arith, nat_tests) in absurd never

-- the texts of lists of at least one part
abbrev id_text : List Row → List ℕ → Text
id_text rows ns = codes "(" ++ (join_by (λ id. id) (codes ",") (map (id_at rows) ns) ++ codes ")")

abbrev name_text : List Row → List ℕ → Text
name_text rows ns = codes "Tuple_of_" ++ join_by (λ name. name) (codes "_and_") (map (name_at rows) ns)

texts_of_parts : (rows : List Row) (ns : List ℕ) → (length ns == 0) ≡ false
    → (id_text rows ns ≡ tuple_id (map (id_at rows) ns)) × (name_text rows ns ≡ tuple_name (map (name_at rows) ns))
texts_of_parts rows [] is = cc
texts_of_parts rows (n ∷ ns) is = (refl, refl)

pub returns-then-is_empty-clause-ok : goal.returns-then-is_empty-clause-ok
returns-then-is_empty-clause-ok c =
    let rows = c.args.self.now in
    let parts = c.args.parts in
    let none = no_parts parts.items (sym (c.is_empty.ensures ∙ ap (λ n. n == 0) (omega (arith, parts.ok.0))) ∙ c.if-is_empty.true) in
    let id : tuple_id (map (id_at rows) parts.items) ≡ codes "[]" = ap (λ (ns : List ℕ). tuple_id (map (id_at rows) ns)) none in
    let name : tuple_name (map (name_at rows) parts.items) ≡ codes "EmptyArray" =
    ap (λ (ns : List ℕ). tuple_name (map (name_at rows) ns)) none in
    rw (id, name) c.register_named.ensures.ok

pub returns-then-is_empty-clause-refused : goal.returns-then-is_empty-clause-refused
returns-then-is_empty-clause-refused c =
    let rows = c.args.self.now in
    let parts = c.args.parts in
    let none = no_parts parts.items (sym (c.is_empty.ensures ∙ ap (λ n. n == 0) (omega (arith, parts.ok.0))) ∙ c.if-is_empty.true) in
    let id : tuple_id (map (id_at rows) parts.items) ≡ codes "[]" = ap (λ (ns : List ℕ). tuple_id (map (id_at rows) ns)) none in
    rw id c.register_named.ensures.refused

pub returns-in-Some-clause-refused : goal.returns-in-Some-clause-refused
returns-in-Some-clause-refused c =
    ap (λ ns. unknown_in c.args.self.now (tuple ns)) (sym c.deref.ensures.value)
    ∙ unknown_among c.args.self.now (tuple c.deref.result.now) _ c.len.result _ refl c.len.ensures.len c.in-Some.ensures

pub returns-in_err-id-clause-refused : goal.returns-in_err-id-clause-refused
returns-in_err-id-clause-refused c =
    let p = err_from_is_err_and c.from_residual.result c.from_residual.ensures.1 in
    rw (p.1, p.2) (ap (λ ns. unknown_in c.args.self.now (tuple ns)) (sym c.deref.ensures.value)
    ∙ unknown_among c.args.self.now (tuple c.deref.result.now) _ c.len.result _ refl c.len.ensures.len c.in_default.ensures)

pub returns-in_err-name-clause-refused : goal.returns-in_err-name-clause-refused
returns-in_err-name-clause-refused c =
    let p = err_from_is_err_and c.from_residual-in_err-name.result c.from_residual-in_err-name.ensures.1 in
    rw (p.1, p.2) (ap (λ ns. unknown_in c.args.self.now (tuple ns)) (sym c.deref.ensures.value)
    ∙ unknown_among c.args.self.now (tuple c.deref.result.now) _ c.len.result _ refl c.len.ensures.len c.in_default.ensures)

pub register_row-requires : goal.register_row-requires
register_row-requires c = ap (λ ns. unknown_in c.args.self.now (tuple ns)) (sym c.deref.ensures.value)
    ∙ unknown_among c.args.self.now (tuple c.deref.result.now) _ c.len.result _ refl c.len.ensures.len c.in_default.ensures

pub returns-clause-ok : goal.returns-clause-ok
returns-clause-ok c =
    let rows = c.args.self.now in
    let parts = c.args.parts in
    let some = sym (c.is_empty.ensures ∙ ap (λ n. n == 0) (omega (arith, parts.ok.0))) ∙ c.if-is_empty.false in
    let texts = texts_of_parts rows parts.items some in
    let id : string_bytes c.in_ok-id.id ≡ tuple_id (map (id_at rows) parts.items) =
    c.in_ok-id.ensures ∙ ap (id_text rows) c.deref-2.ensures.value ∙ texts.0 in
    let name : string_bytes c.in_ok-name.name ≡ tuple_name (map (name_at rows) parts.items) =
    c.in_ok-name.ensures ∙ ap (name_text rows) c.deref-3.ensures.value ∙ texts.1 in
    rw (id, name) at c.register_row.ensures.ok

pub returns-clause-refused : goal.returns-clause-refused
returns-clause-refused c =
    let rows = c.args.self.now in
    let parts = c.args.parts in
    let some = sym (c.is_empty.ensures ∙ ap (λ n. n == 0) (omega (arith, parts.ok.0))) ∙ c.if-is_empty.false in
    let id : string_bytes c.in_ok-id.id ≡ tuple_id (map (id_at rows) parts.items) =
    c.in_ok-id.ensures ∙ ap (id_text rows) c.deref-2.ensures.value ∙ (texts_of_parts rows parts.items some).0 in
    rw id at c.register_row.ensures.refused
