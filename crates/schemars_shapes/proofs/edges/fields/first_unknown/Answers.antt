use Rattle.std.proofs.Common.{◌∙◌, ℕ, List, map, nat_le, find, ap, sym}
use Rattle.schemars_shapes.proofs.Words.{option_or, find-append, field_of, fields_of, flattened_rows}
use Rattle.schemars_shapes.proofs.edges.fields.first_unknown.Goals as goal

pub returns-in-Some : goal.returns-in-Some
returns-in-Some c =
    let types : List ℕ = map (λ f. f.ty) (map field_of c.args.fields.now.list.items) in
    let rows : List ℕ = flattened_rows (fields_of c.args.fields.now) in
    ap (λ o. option_or o (find (nat_le c.args.len) rows)) c.in-Some.ensures ∙ sym (find-append (nat_le c.args.len) types rows)

pub returns-in-None : goal.returns-in-None
returns-in-None c =
    let types : List ℕ = map (λ f. f.ty) (map field_of c.args.fields.now.list.items) in
    let rows : List ℕ = flattened_rows (fields_of c.args.fields.now) in
    c.unknown_flattened.ensures
    ∙ (ap (λ o. option_or o (find (nat_le c.args.len) rows)) c.in-None.ensures ∙ sym (find-append (nat_le c.args.len) types rows))
