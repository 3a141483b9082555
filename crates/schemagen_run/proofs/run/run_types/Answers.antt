-- The line is that of the table's root, and the sink has taken it, or a beginning of it.
use Rattle.std.proofs.Common.{◌≡◌, ℕ, nat_eq, false, ap, refl, inl, Err}
use Rattle.schemagen_run.proofs.Vocabulary.{IfErr-weaker}
use Rattle.schemagen_run.specs.declared.fault.Fault.TheVariants.{Refused}
use Rattle.schemars_generate.specs.declared.error.TheConstants.{DEFINITIONS_PATH}
use Rattle.schemagen_run.specs.declared.fault.TheConstants.{NOT_JSON, BAD_TABLE, READ, WRITE}
use Rattle.schemagen_run.proofs.Results.{passed_on, same_error, other_result, ok_is_no_error}
use Rattle.schemagen_run.proofs.Runs.{read_is_no_write, read_is_no_path, read_is_of_no_table, gave, read_outside, read_is_accepted, read_is_noted, noted_is_accepted, gives_line}
use Rattle.schemagen_run.proofs.Writing.{no_line, line_of_given, is_no_other, faulty_table, unplaced_table, line_fault, accepted_fault, noted_fault}
use Rattle.schemagen_run.proofs.run.run_types.Goals as goal

-- ---- the table is refused

pub returns-in_err-types : goal.returns-in_err-types
returns-in_err-types g c =
    let e = c.in_err-types.field-0.0 in
    let why = c.in_err-types.ensures in
    let r = c.from_residual.result in
    let is = passed_on r e c.from_residual.ensures.1 in
    record {
      read = (
        λ u. why.read.0 (ap Err (same_error r e (Refused READ) is u)),
        λ failed. other_result r (Err e) e (Refused READ) is refl (why.read.1 failed),
      );
      not_json = λ u. why.not_json (ap Err (same_error r e (Refused NOT_JSON) is u));
      bad_table = λ u. why.bad_table (ap Err (same_error r e (Refused BAD_TABLE) is u));
      faulty = rw is (λ table. absurd (read_is_of_no_table e why.faults table));
      unplaced = λ u. absurd (read_is_no_path e why.faults (same_error r e (Refused DEFINITIONS_PATH) is u));
      output = no_line _ _ _ _ r e _ _ is (read_is_no_write e why.faults) refl;
      faults = rw is (inl why.faults);
      accepted = λ bytes known text. rw is
          (inl (read_outside bytes _ _ e known text why.faults (λ f. why.not_json (ap Err f))
          (λ f. why.bad_table (ap Err f))));
      noted = λ bytes known text. rw is
          (read_outside bytes _ _ e known (noted_is_accepted bytes text) why.faults (λ f. why.not_json (ap Err f))
          (λ f. why.bad_table (ap Err f)));
    }

-- ---- the line is written, or not

no_write : (n : ℕ) → nat_eq n WRITE ≡ false → Refused n ≡ Refused WRITE → ⊥
no_write n other is = cc

pub returns : goal.returns
returns g c =
    let r = c.write_line.result in
    let why = c.write_line.ensures.refused in
    let given = c.in_ok-types.ensures.ok in
    let rows = c.in_ok-types.types in
    let root = c.in_ok-types.root in
    record {
      read = (
        λ u. absurd (is_no_other _ rows root r (Refused READ) why refl (no_write READ refl) u),
        λ failed. absurd (ok_is_no_error _ _ (c.in_ok-types.ensures.read.1 failed)),
      );
      not_json = λ u. absurd (is_no_other _ rows root r (Refused NOT_JSON) why refl (no_write NOT_JSON refl) u);
      bad_table = λ u. absurd (is_no_other _ rows root r (Refused BAD_TABLE) why refl (no_write BAD_TABLE refl) u);
      faulty = IfErr-weaker r _ _ (λ e told. faulty_table rows root _ _ e given told) why;
      unplaced = λ u.
          let (bytes, consumed, end, text) = given in
          (bytes, consumed, end, (rows, (root, text, unplaced_table _ rows root r why u)));
      output = line_of_given _ _ _ _ _ r _ _ (λ text (accepted, of) Q holds.
          gives_line {Q = Q} c.args.asked rows root text _ _ given accepted of holds) c.write_line.ensures.written;
      faults = IfErr-weaker r _ _ (λ e told. line_fault e told) why;
      accepted = λ bytes known text.
          let accepted = read_is_accepted bytes _ _ (gave bytes _ _ known given) text in
          IfErr-weaker r _ _ (λ e told. accepted_fault e accepted told) why;
      noted = λ bytes known text.
          let table = read_is_noted bytes _ _ (gave bytes _ _ known given) text in
          IfErr-weaker r _ _ (λ e told. noted_fault e table.0 table.1 told) why;
    }
