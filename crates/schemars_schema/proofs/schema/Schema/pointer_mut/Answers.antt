-- A pointer is a token and a pointer.
use Rattle.std.proofs.Common.{Some, None, sym, ap, ◌∙◌, arith, option_map, option_and_then}
use Rattle.schemars_schema.proofs.Words.{cow_str_bytes, strip_prefix_char, get, pointer}
use Rattle.schemars_schema.proofs.Pointers.{inside-other, inside-first}
use Rattle.schemars_schema.proofs.schema.Schema.pointer_mut.Goals as goal

pub returns-in_default-strip_prefix : goal.returns-in_default-strip_prefix
returns-in_default-strip_prefix c =
    let text = sym c.in_ok-path.ensures ∙ ap (option_map cow_str_bytes) c.in-Some.is ∙ ap Some (sym c.as_str.ensures.value) in
    sym (inside-other c.args.pointer.now c.as_str.result.now c.args.self.now text
    (strip_prefix_char 47 c.as_str.result.now None c.in_default-strip_prefix.ensures.cases (omega arith)))

pub returns-in-Some-get_mut : goal.returns-in-Some-get_mut
returns-in-Some-get_mut c =
    let d = c.args.self.now in
    let tokens = c.in-Some-strip_prefix.tokens.now in
    let slash = strip_prefix_char 47 c.as_str.result.now (Some c.in-Some-strip_prefix.tokens) c.in-Some-strip_prefix.ensures.cases
    (omega arith) in
    let text = sym c.in_ok-path.ensures ∙ ap (option_map cow_str_bytes) c.in-Some.is ∙ ap Some (sym c.as_str.ensures.value ∙ slash) in
    let member = c.in-Some-get_mut.ensures.value ∙ ap (λ k. get k d) (c.as_str-2.ensures.value ∙ c.in_ok-key.ensures) in
    c.pointer_mut.ensures ∙ ap (option_and_then (pointer c.split_token.result.1.now)) member
    ∙ sym (inside-first c.args.pointer.now tokens c.split_token.result.0.now c.split_token.result.1.now d text c.split_token.ensures)

pub returns : goal.returns
returns c =
    let d = c.args.self.now in
    let tokens = c.in-Some-strip_prefix.tokens.now in
    let slash = strip_prefix_char 47 c.as_str.result.now (Some c.in-Some-strip_prefix.tokens) c.in-Some-strip_prefix.ensures.cases
    (omega arith) in
    let text = sym c.in_ok-path.ensures ∙ ap (option_map cow_str_bytes) c.in-Some.is ∙ ap Some (sym c.as_str.ensures.value ∙ slash) in
    let member = c.in-None.ensures.value ∙ ap (λ k. get k d) (c.as_str-2.ensures.value ∙ c.in_ok-key.ensures) in
    ap (option_and_then (pointer c.split_token.result.1.now)) member
    ∙ sym (inside-first c.args.pointer.now tokens c.split_token.result.0.now c.split_token.result.1.now d text c.split_token.ensures)
