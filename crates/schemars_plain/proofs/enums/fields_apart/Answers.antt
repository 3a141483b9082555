use Rattle.std.proofs.Common.{◌∙◌, ◌++◌, ap, map, sym, subst}
use Rattle.schemars_plain.proofs.Words.{option_map, field_of, fields_of, flattened_of, effective, flattened_in, flattened_enums, part_enums, enum_names_at, tag_names, AreApart}
use Rattle.schemars_plain.proofs.Said.{apart_said}
use Rattle.schemars_plain.proofs.Named.{enums_said}
use Rattle.schemars_plain.proofs.enums.fields_apart.Goals as goal

pub returns : goal.returns
returns c =
    let rows = c.args.types.now in
    let x = fields_of c.args.fields.now in
    let own = map (λ f. field_of f.now) c.in_ok-own.own.items in
    let all = effective (flattened_in rows) x in
    let tags = tag_names (option_map (λ t. t.now) c.args.tag) in
    let enums = c.deref-2.ensures.value
    ∙ (c.in_ok-enums.ensures ∙ ap (λ ps. flattened_enums (part_enums rows) (map flattened_of ps)) c.deref.ensures.value) in
    let lists = c.in_ok-add_enum_names.ensures
    ∙ (ap (λ l. l ++ map (enum_names_at rows) c.deref-2.result.now) c.in_ok-others.ensures
    ∙ ap (λ l. tags ++ l) (ap (map (enum_names_at rows)) enums
    ∙ enums_said (enum_names_at rows) (flattened_enums (part_enums rows) x.flatten))) in
    let apart = rw (c.deref-3.ensures.value, c.deref-4.ensures.value) at c.are_apart.ensures in (
      λ t. apart_said own all _ c.in_ok-own.ensures (subst (AreApart own) lists (apart.0 t)),
      λ p. apart.1 (subst (AreApart own) (sym lists) (apart_said all own _ (sym c.in_ok-own.ensures) p)),
    )
