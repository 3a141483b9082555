-- The table is what the members of the value say.
use Rattle.schemagen_input.proofs.Words.{IfOk-weaker, IfErr-weaker, data_of}
use Rattle.schemagen_input.proofs.TableMembers.{rows_of_table}
use Rattle.schemagen_input.proofs.Written.{input_back, is_read, is_not_refused}
use Rattle.schemagen_input.proofs.LibraryShapes.{rows_have_library_shapes}
use Rattle.schemagen_input.proofs.input.read_input.Goals as goal

pub returns-clause-ok : goal.returns-clause-ok
returns-clause-ok c =
    IfOk-weaker c.into_table.result _ _ (λ t table. (table (data_of c.args.value.now) c.in_ok-members.ensures).0) c.into_table.ensures.ok

pub returns-clause-complete : goal.returns-clause-complete
returns-clause-complete c =
    IfOk-weaker c.into_table.result _ _ (λ t table. (table (data_of c.args.value.now) c.in_ok-members.ensures).1) c.into_table.ensures.ok

pub returns-clause-bad : goal.returns-clause-bad
returns-clause-bad c =
    IfErr-weaker c.into_table.result _ _ (λ e none bad. none bad (data_of c.args.value.now) c.in_ok-members.ensures) c.into_table.ensures.bad

pub returns-clause-read_back : goal.returns-clause-read_back
returns-clause-read_back c = λ rows root h is.
    IfOk-weaker c.into_table.result _ _ (λ t table. is_read (data_of c.args.value.now) t.0 t.1 table rows root h is) (returns-clause-ok c)

pub returns-clause-not_refused : goal.returns-clause-not_refused
returns-clause-not_refused c = λ rows root h is.
    IfErr-weaker c.into_table.result _ _ (λ e none bad. is_not_refused (data_of c.args.value.now) (none bad) rows root h is)
    (returns-clause-bad c)

pub returns-clause-can_be_written : goal.returns-clause-can_be_written
returns-clause-can_be_written c =
    IfOk-weaker c.into_table.result _ _ (λ t table.
    let said = table (data_of c.args.value.now) c.in_ok-members.ensures in
    let rows = rows_of_table (data_of c.args.value.now) t.0 t.1 said.0 in
    record { complete = said.1; shapes = rows_have_library_shapes rows.0 t.0 rows.1 }) c.into_table.ensures.ok

-- a law of definitions, at each return
pub returns-in_err-members-clause-input : goal.returns-in_err-members-clause-input
returns-in_err-members-clause-input c = input_back

pub returns-clause-input : goal.returns-clause-input
returns-clause-input c = input_back
