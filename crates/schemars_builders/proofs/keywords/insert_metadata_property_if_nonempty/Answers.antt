-- An empty text changes nothing, and another is put in.
use Rattle.std.proofs.Common.{◌≡◌, true, false, [], ◌∷◌, length, refl, sym, ap, ◌∙◌, true≢false, eqb-true, arith}
use Rattle.schemars_builders.proofs.Words.{◌==◌, on_ok_weaker, Data, string, view, Text, inserted, with_metadata}
use Rattle.schemars_builders.proofs.keywords.insert_metadata_property_if_nonempty.Goals as goal

empty_stays : (k text : Text) (schema : Data) → (length text == 0) ≡ true → schema ≡ with_metadata k text schema
empty_stays k [] schema empty = refl
empty_stays k (b ∷ bs) schema empty = absurd (omega (arith, eqb-true (length (b ∷ bs)) 0 empty))

text_joins : (k text : Text) (d schema : Data) → (length text == 0) ≡ false → d ≡ string text
    → inserted k d schema ≡ with_metadata k text schema
text_joins k [] d schema some is = absurd (true≢false some)
text_joins k (b ∷ bs) d schema some is = ap (λ e. inserted k e schema) is

pub returns-then-is_empty-clause-ok : goal.returns-then-is_empty-clause-ok
returns-then-is_empty-clause-ok c =
    empty_stays c.args.key.now c.args.value.now c.args.schema.now (sym c.is_empty.ensures ∙ c.if-is_empty.true)

pub returns-clause-ok : goal.returns-clause-ok
returns-clause-ok c =
    let joins = text_joins c.args.key.now c.args.value.now _ c.args.schema.now
    (sym c.is_empty.ensures ∙ c.if-is_empty.false) c.in_ok-text.ensures in
    on_ok_weaker c.set_keyword.result
    (λ (set : c.set_keyword.new.schema ≡ inserted c.args.key.now (view c.in_ok-text.text) c.args.schema.now).
    set ∙ joins)
    c.set_keyword.ensures.ok
