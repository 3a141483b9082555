-- The parts of the trimmed text.
use Rattle.std.proofs.Common.{[], true, false, Some, None, refl, arith}
use Rattle.schemars_builders.proofs.Words.{split_once_first}
use Rattle.schemars_builders.proofs.Headings.{ends_trimmed, headed-test, no_title, whole_description, heading_title, rest_description, only_line, nothing_after}
use Rattle.schemars_builders.proofs.documentation.get_title_and_description.Goals as goal

pub returns-then-not-starts_with-clause-title : goal.returns-then-not-starts_with-clause-title
returns-then-not-starts_with-clause-title c =
    let t = c.trim_ascii-text.result.now in
    let starts = c.starts_with.ensures.byte (omega arith) (omega arith) (λ w o is. is) in
    let headed = headed-test t c.starts_with.result false starts c.if-not-starts_with.true in
    no_title c.args.doc.now t (ends_trimmed _ _ c.trim_ascii-text.ensures.value) headed

pub returns-then-not-starts_with-clause-description : goal.returns-then-not-starts_with-clause-description
returns-then-not-starts_with-clause-description c =
    let t = c.trim_ascii-text.result.now in
    let starts = c.starts_with.ensures.byte (omega arith) (omega arith) (λ w o is. is) in
    let headed = headed-test t c.starts_with.result false starts c.if-not-starts_with.true in
    whole_description c.args.doc.now t (ends_trimmed _ _ c.trim_ascii-text.ensures.value) headed

pub returns-in-Some-clause-title : goal.returns-in-Some-clause-title
returns-in-Some-clause-title c =
    let t = c.trim_ascii-text.result.now in
    let starts = c.starts_with.ensures.byte (omega arith) (omega arith) (λ w o is. is) in
    let headed = headed-test t c.starts_with.result true starts c.if-not-starts_with.false in
    let parts = split_once_first 10 t (Some (c.in-Some.heading, c.in-Some.rest)) c.in-Some.ensures.cases
    (omega arith) in
    heading_title c.args.doc.now t c.in-Some.heading.now _ (ends_trimmed _ _ c.trim_ascii-text.ensures.value) headed
    parts.1 c.title.ensures

pub returns-in-Some-clause-description : goal.returns-in-Some-clause-description
returns-in-Some-clause-description c =
    let t = c.trim_ascii-text.result.now in
    let starts = c.starts_with.ensures.byte (omega arith) (omega arith) (λ w o is. is) in
    let headed = headed-test t c.starts_with.result true starts c.if-not-starts_with.false in
    let parts = split_once_first 10 t (Some (c.in-Some.heading, c.in-Some.rest)) c.in-Some.ensures.cases
    (omega arith) in
    rest_description c.args.doc.now t c.in-Some.rest.now _ (ends_trimmed _ _ c.trim_ascii-text.ensures.value)
    headed parts.2 (ends_trimmed _ _ c.trim_ascii.ensures.value)

pub returns-in-None-clause-title : goal.returns-in-None-clause-title
returns-in-None-clause-title c =
    let t = c.trim_ascii-text.result.now in
    let starts = c.starts_with.ensures.byte (omega arith) (omega arith) (λ w o is. is) in
    let headed = headed-test t c.starts_with.result true starts c.if-not-starts_with.false in
    let one = split_once_first 10 t None c.in-None.ensures.cases (omega arith) in
    heading_title c.args.doc.now t t _ (ends_trimmed _ _ c.trim_ascii-text.ensures.value) headed (only_line t one)
    c.title-in-None.ensures

pub returns-in-None-clause-description : goal.returns-in-None-clause-description
returns-in-None-clause-description c =
    let t = c.trim_ascii-text.result.now in
    let starts = c.starts_with.ensures.byte (omega arith) (omega arith) (λ w o is. is) in
    let headed = headed-test t c.starts_with.result true starts c.if-not-starts_with.false in
    let one = split_once_first 10 t None c.in-None.ensures.cases (omega arith) in
    rest_description c.args.doc.now t [] _ (ends_trimmed _ _ c.trim_ascii-text.ensures.value) headed
    (nothing_after t one) refl
