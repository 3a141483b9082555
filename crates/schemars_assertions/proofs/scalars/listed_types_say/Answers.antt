-- What each way of reading `type` says.
use Rattle.std.proofs.Common.{◌∙◌, sym, option_map}
use Rattle.schemars_assertions.proofs.Words.{view, items_view}
use Rattle.schemars_assertions.proofs.Texts.{no_texts, no_types, plain_says, null_says, passing_says, nullable_says}
use Rattle.schemars_assertions.proofs.scalars.listed_types_say.Goals as goal

pub returns-then-not-are_texts : goal.returns-then-not-are_texts
returns-then-not-are_texts c =
    sym (no_texts _ (items_view c.args.names.now) (sym c.are_texts.ensures ∙ c.if-not-are_texts.true))

pub returns-then-not-are_type_names : goal.returns-then-not-are_type_names
returns-then-not-are_type_names c =
    sym (no_types _ (items_view c.args.names.now) (sym c.are_texts.ensures ∙ c.if-not-are_texts.false)
    (sym c.are_type_names.ensures ∙ c.if-not-are_type_names.true))

pub returns-then-not-reads_nullable : goal.returns-then-not-reads_nullable
returns-then-not-reads_nullable c =
    c.verdict_of.ensures
    ∙ plain_says (option_map (λ v. view v.now) c.args.nullable) (items_view c.args.names.now) (view c.args.value.now) c.args.reads_nullable
    c.is_of_some_type-fits.result
    (sym c.are_texts.ensures ∙ c.if-not-are_texts.false)
    (sym c.are_type_names.ensures ∙ c.if-not-are_type_names.false) c.if-not-reads_nullable.true c.is_of_some_type-fits.ensures

pub returns-then-holds_text : goal.returns-then-holds_text
returns-then-holds_text c =
    null_says (option_map (λ v. view v.now) c.args.nullable) (items_view c.args.names.now) (view c.args.value.now) c.args.reads_nullable
    (sym c.are_texts.ensures ∙ c.if-not-are_texts.false)
    (sym c.are_type_names.ensures ∙ c.if-not-are_type_names.false) c.if-not-reads_nullable.false
    (sym c.holds_text.ensures ∙ c.if-holds_text.true)

pub returns-then-lets_null_pass : goal.returns-then-lets_null_pass
returns-then-lets_null_pass c =
    passing_says (option_map (λ v. view v.now) c.args.nullable) (items_view c.args.names.now) (view c.args.value.now) c.args.reads_nullable
    (sym c.are_texts.ensures ∙ c.if-not-are_texts.false)
    (sym c.are_type_names.ensures ∙ c.if-not-are_type_names.false) c.if-not-reads_nullable.false
    (sym c.lets_null_pass.ensures ∙ c.if-lets_null_pass.true)

pub returns : goal.returns
returns c =
    c.verdict_of-2.ensures
    ∙ nullable_says (option_map (λ v. view v.now) c.args.nullable) (items_view c.args.names.now) (view c.args.value.now) c.args.reads_nullable
    c.is_of_some_type-fits.result
    (sym c.are_texts.ensures ∙ c.if-not-are_texts.false)
    (sym c.are_type_names.ensures ∙ c.if-not-are_type_names.false) c.if-not-reads_nullable.false
    (sym c.holds_text.ensures ∙ c.if-holds_text.false) (sym c.lets_null_pass.ensures ∙ c.if-lets_null_pass.false)
    c.is_of_some_type-fits.ensures
