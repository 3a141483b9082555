-- A pointer in a fragment, decoded.
use Rattle.std.proofs.Common.{Some, None, ap, sym, ◌∙◌, arith, option_map}
use Rattle.schemars_validate.proofs.Words.{strip_prefix_char, cow_str_bytes, pointer, view, schema_at}
use Rattle.schemars_validate.proofs.Resolving.{no_fragment, no_path, path_found}
use Rattle.schemars_validate.proofs.found.resolved.Goals as goal

pub returns-in_default : goal.returns-in_default
returns-in_default c =
    no_fragment c.args.reference.now (view c.args.document.now)
    (strip_prefix_char 35 c.args.reference.now None c.in_default.ensures.cases (omega arith))

pub returns-in_default-2 : goal.returns-in_default-2
returns-in_default-2 c =
    no_path c.args.reference.now c.in-Some.fragment.now (view c.args.document.now)
    (strip_prefix_char 35 c.args.reference.now (Some c.in-Some.fragment) c.in-Some.ensures.cases (omega arith))
    (sym c.in_ok-path.ensures.decoded ∙ ap (option_map cow_str_bytes) c.in_default-2.is)

pub returns : goal.returns
returns c =
    let d = view c.args.document.now in
    c.schema_at.ensures
    ∙ (ap schema_at c.pointer.ensures
    ∙ (ap (λ p. schema_at (pointer p d)) c.as_str.ensures.value
    ∙ path_found c.args.reference.now c.in-Some.fragment.now (cow_str_bytes c.in-Some-2.path) d
    (strip_prefix_char 35 c.args.reference.now (Some c.in-Some.fragment) c.in-Some.ensures.cases (omega arith))
    (sym c.in_ok-path.ensures.decoded ∙ ap (option_map cow_str_bytes) c.in-Some-2.is)))
