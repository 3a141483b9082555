-- Each part says what its contract says; and each call has less work left.
use Rattle.schemars_validate.proofs.judge.+judge.Answers.Whole as whole
use Rattle.schemars_validate.proofs.judge.+judge.Answers.Beside as beside
use Rattle.schemars_validate.proofs.judge.+judge.Answers.OfOne as one
use Rattle.schemars_validate.proofs.judge.+judge.Answers.Condition as condition
use Rattle.schemars_validate.proofs.judge.+judge.Answers.OfSeveral as several
use Rattle.schemars_validate.proofs.judge.+judge.Answers.OfItems as items
use Rattle.schemars_validate.proofs.judge.+judge.Answers.OfMembers as members
use Rattle.schemars_validate.proofs.judge.+judge.Answers.Left as left
use Rattle.schemars_validate.proofs.judge.+judge.Goals as goal
mod Whole
mod Beside
mod OfOne
mod Condition
mod OfSeveral
mod OfItems
mod OfMembers
mod Left

-- ---- a schema, and an object with all its keywords

pub judge-object-requires : goal.judge-object-requires
judge-object-requires = whole.judge-object-requires

pub judge-returns-in-Some-clause-verdict : goal.judge-returns-in-Some-clause-verdict
judge-returns-in-Some-clause-verdict = whole.judge-returns-in-Some-clause-verdict

pub judge-returns-in-Some-clause-judged : goal.judge-returns-in-Some-clause-judged
judge-returns-in-Some-clause-judged = whole.judge-returns-in-Some-clause-judged

pub judge-returns-in-None-clause-verdict : goal.judge-returns-in-None-clause-verdict
judge-returns-in-None-clause-verdict = whole.judge-returns-in-None-clause-verdict

pub judge-returns-in-None-clause-judged : goal.judge-returns-in-None-clause-judged
judge-returns-in-None-clause-judged = whole.judge-returns-in-None-clause-judged

pub object-reference-requires : goal.object-reference-requires
object-reference-requires = whole.object-reference-requires

pub object-beside-requires : goal.object-beside-requires
object-beside-requires = whole.object-beside-requires

pub object-beside-requires-in-None : goal.object-beside-requires-in-None
object-beside-requires-in-None = whole.object-beside-requires-in-None

pub object-unevaluated-requires : goal.object-unevaluated-requires
object-unevaluated-requires = whole.object-unevaluated-requires

pub object-returns-then-refers_alone-clause-verdict : goal.object-returns-then-refers_alone-clause-verdict
object-returns-then-refers_alone-clause-verdict = whole.object-returns-then-refers_alone-clause-verdict

pub object-returns-then-refers_alone-clause-judged : goal.object-returns-then-refers_alone-clause-judged
object-returns-then-refers_alone-clause-judged = whole.object-returns-then-refers_alone-clause-judged

pub object-returns-in_ok-rest-in-Some-clause-verdict : goal.object-returns-in_ok-rest-in-Some-clause-verdict
object-returns-in_ok-rest-in-Some-clause-verdict = whole.object-returns-in_ok-rest-in-Some-clause-verdict

pub object-returns-in_ok-rest-in-Some-clause-judged : goal.object-returns-in_ok-rest-in-Some-clause-judged
object-returns-in_ok-rest-in-Some-clause-judged = whole.object-returns-in_ok-rest-in-Some-clause-judged

pub object-returns-in-None-clause-verdict : goal.object-returns-in-None-clause-verdict
object-returns-in-None-clause-verdict = whole.object-returns-in-None-clause-verdict

pub object-returns-in-None-clause-judged : goal.object-returns-in-None-clause-judged
object-returns-in-None-clause-judged = whole.object-returns-in-None-clause-judged

-- ---- all keywords but those for what is left

pub keywords::beside-inside-requires : goal.keywords::beside-inside-requires
keywords::beside-inside-requires = beside.keywords::beside-inside-requires

pub keywords::beside-each-requires : goal.keywords::beside-each-requires
keywords::beside-each-requires = beside.keywords::beside-each-requires

pub keywords::beside-each-requires-2 : goal.keywords::beside-each-requires-2
keywords::beside-each-requires-2 = beside.keywords::beside-each-requires-2

pub keywords::beside-each-requires-3 : goal.keywords::beside-each-requires-3
keywords::beside-each-requires-3 = beside.keywords::beside-each-requires-3

pub keywords::beside-condition-requires : goal.keywords::beside-condition-requires
keywords::beside-condition-requires = beside.keywords::beside-condition-requires

pub keywords::beside-dependents-requires : goal.keywords::beside-dependents-requires
keywords::beside-dependents-requires = beside.keywords::beside-dependents-requires

pub keywords::beside-reference-requires : goal.keywords::beside-reference-requires
keywords::beside-reference-requires = beside.keywords::beside-reference-requires

pub keywords::beside-dependencies-requires : goal.keywords::beside-dependencies-requires
keywords::beside-dependencies-requires = beside.keywords::beside-dependencies-requires

pub keywords::beside-alone-requires : goal.keywords::beside-alone-requires
keywords::beside-alone-requires = beside.keywords::beside-alone-requires

pub keywords::beside-returns-clause-verdict : goal.keywords::beside-returns-clause-verdict
keywords::beside-returns-clause-verdict = beside.keywords::beside-returns-clause-verdict

pub keywords::beside-returns-clause-judged : goal.keywords::beside-returns-clause-judged
keywords::beside-returns-clause-judged = beside.keywords::beside-returns-clause-judged

pub keywords::inside-items-requires : goal.keywords::inside-items-requires
keywords::inside-items-requires = beside.keywords::inside-items-requires

pub keywords::inside-contains-requires : goal.keywords::inside-contains-requires
keywords::inside-contains-requires = beside.keywords::inside-contains-requires

pub keywords::inside-names-requires : goal.keywords::inside-names-requires
keywords::inside-names-requires = beside.keywords::inside-names-requires

pub keywords::inside-members-requires : goal.keywords::inside-members-requires
keywords::inside-members-requires = beside.keywords::inside-members-requires

pub keywords::inside-returns-clause-verdict : goal.keywords::inside-returns-clause-verdict
keywords::inside-returns-clause-verdict = beside.keywords::inside-returns-clause-verdict

pub keywords::inside-returns-clause-judged : goal.keywords::inside-returns-clause-judged
keywords::inside-returns-clause-judged = beside.keywords::inside-returns-clause-judged

-- ---- one schema, of the same value or of another, and one that a reference names

pub one::branch-returns-in-None-clause-judged : goal.one::branch-returns-in-None-clause-judged
one::branch-returns-in-None-clause-judged = one.one::branch-returns-in-None-clause-judged

pub one::reference-returns-in_default-clause-verdict : goal.one::reference-returns-in_default-clause-verdict
one::reference-returns-in_default-clause-verdict = one.one::reference-returns-in_default-clause-verdict

pub one::reference-returns-in_default-clause-judged : goal.one::reference-returns-in_default-clause-judged
one::reference-returns-in_default-clause-judged = one.one::reference-returns-in_default-clause-judged

pub one::reference-named-requires : goal.one::reference-named-requires
one::reference-named-requires = one.one::reference-named-requires

pub one::reference-returns-clause-verdict : goal.one::reference-returns-clause-verdict
one::reference-returns-clause-verdict = one.one::reference-returns-clause-verdict

pub one::reference-returns-clause-judged : goal.one::reference-returns-clause-judged
one::reference-returns-clause-judged = one.one::reference-returns-clause-judged

pub one::named-followed-requires : goal.one::named-followed-requires
one::named-followed-requires = one.one::named-followed-requires

pub one::named-returns-in-None-clause-judged : goal.one::named-returns-in-None-clause-judged
one::named-returns-in-None-clause-judged = one.one::named-returns-in-None-clause-judged

pub one::followed-returns-then-left-eq0-clause-verdict : goal.one::followed-returns-then-left-eq0-clause-verdict
one::followed-returns-then-left-eq0-clause-verdict = one.one::followed-returns-then-left-eq0-clause-verdict

pub one::followed-returns-then-left-eq0-clause-judged : goal.one::followed-returns-then-left-eq0-clause-judged
one::followed-returns-then-left-eq0-clause-judged = one.one::followed-returns-then-left-eq0-clause-judged

pub one::followed-returns-in_default-clause-verdict : goal.one::followed-returns-in_default-clause-verdict
one::followed-returns-in_default-clause-verdict = one.one::followed-returns-in_default-clause-verdict

pub one::followed-returns-in_default-clause-judged : goal.one::followed-returns-in_default-clause-judged
one::followed-returns-in_default-clause-judged = one.one::followed-returns-in_default-clause-judged

pub one::followed-passed_on-requires : goal.one::followed-passed_on-requires
one::followed-passed_on-requires = one.one::followed-passed_on-requires

pub one::followed-alone-requires : goal.one::followed-alone-requires
one::followed-alone-requires = one.one::followed-alone-requires

pub one::followed-fits-requires : goal.one::followed-fits-requires
one::followed-fits-requires = one.one::followed-fits-requires

pub one::followed-returns-then-is_empty-clause-verdict : goal.one::followed-returns-then-is_empty-clause-verdict
one::followed-returns-then-is_empty-clause-verdict = one.one::followed-returns-then-is_empty-clause-verdict

pub one::followed-returns-then-is_empty-clause-judged : goal.one::followed-returns-then-is_empty-clause-judged
one::followed-returns-then-is_empty-clause-judged = one.one::followed-returns-then-is_empty-clause-judged

pub one::followed-returns-then-is_empty-clause-keeps : goal.one::followed-returns-then-is_empty-clause-keeps
one::followed-returns-then-is_empty-clause-keeps = one.one::followed-returns-then-is_empty-clause-keeps

pub one::followed-returns-in_err-keep-clause-keeps : goal.one::followed-returns-in_err-keep-clause-keeps
one::followed-returns-in_err-keep-clause-keeps = one.one::followed-returns-in_err-keep-clause-keeps

pub one::followed-returns-clause-verdict : goal.one::followed-returns-clause-verdict
one::followed-returns-clause-verdict = one.one::followed-returns-clause-verdict

pub one::followed-returns-clause-judged : goal.one::followed-returns-clause-judged
one::followed-returns-clause-judged = one.one::followed-returns-clause-judged

pub one::followed-returns-clause-keeps : goal.one::followed-returns-clause-keeps
one::followed-returns-clause-keeps = one.one::followed-returns-clause-keeps

pub one::followed-returns-in_err-keep-2-clause-keeps : goal.one::followed-returns-in_err-keep-2-clause-keeps
one::followed-returns-in_err-keep-2-clause-keeps = one.one::followed-returns-in_err-keep-2-clause-keeps

pub one::passed_on-named-requires : goal.one::passed_on-named-requires
one::passed_on-named-requires = one.one::passed_on-named-requires

pub one::passed_on-named-requires-2 : goal.one::passed_on-named-requires-2
one::passed_on-named-requires-2 = one.one::passed_on-named-requires-2

pub one::passed_on-returns-then-is_empty-clause-verdict : goal.one::passed_on-returns-then-is_empty-clause-verdict
one::passed_on-returns-then-is_empty-clause-verdict = one.one::passed_on-returns-then-is_empty-clause-verdict

pub one::passed_on-returns-then-is_empty-clause-judged : goal.one::passed_on-returns-then-is_empty-clause-judged
one::passed_on-returns-then-is_empty-clause-judged = one.one::passed_on-returns-then-is_empty-clause-judged

pub one::passed_on-returns-then-is_empty-clause-keeps : goal.one::passed_on-returns-then-is_empty-clause-keeps
one::passed_on-returns-then-is_empty-clause-keeps = one.one::passed_on-returns-then-is_empty-clause-keeps

pub one::passed_on-returns-in_err-keep-clause-keeps : goal.one::passed_on-returns-in_err-keep-clause-keeps
one::passed_on-returns-in_err-keep-clause-keeps = one.one::passed_on-returns-in_err-keep-clause-keeps

pub one::passed_on-returns-clause-verdict : goal.one::passed_on-returns-clause-verdict
one::passed_on-returns-clause-verdict = one.one::passed_on-returns-clause-verdict

pub one::passed_on-returns-clause-judged : goal.one::passed_on-returns-clause-judged
one::passed_on-returns-clause-judged = one.one::passed_on-returns-clause-judged

pub one::passed_on-returns-clause-keeps : goal.one::passed_on-returns-clause-keeps
one::passed_on-returns-clause-keeps = one.one::passed_on-returns-clause-keeps

pub one::passed_on-returns-in_err-keep-2-clause-keeps : goal.one::passed_on-returns-in_err-keep-2-clause-keeps
one::passed_on-returns-in_err-keep-2-clause-keeps = one.one::passed_on-returns-in_err-keep-2-clause-keeps

pub one::fits-returns-clause-judged : goal.one::fits-returns-clause-judged
one::fits-returns-clause-judged = one.one::fits-returns-clause-judged

pub one::alone-judge-requires : goal.one::alone-judge-requires
one::alone-judge-requires = one.one::alone-judge-requires

pub one::alone-returns-in-Some-clause-verdict : goal.one::alone-returns-in-Some-clause-verdict
one::alone-returns-in-Some-clause-verdict = one.one::alone-returns-in-Some-clause-verdict

pub one::alone-returns-in-None-clause-verdict : goal.one::alone-returns-in-None-clause-verdict
one::alone-returns-in-None-clause-verdict = one.one::alone-returns-in-None-clause-verdict

pub one::fits-judge-requires : goal.one::fits-judge-requires
one::fits-judge-requires = one.one::fits-judge-requires

-- ---- `if`, with `then` and `else`

pub several::condition-returns-in_default-clause-verdict : goal.several::condition-returns-in_default-clause-verdict
several::condition-returns-in_default-clause-verdict = condition.several::condition-returns-in_default-clause-verdict

pub several::condition-returns-in_default-clause-judged : goal.several::condition-returns-in_default-clause-judged
several::condition-returns-in_default-clause-judged = condition.several::condition-returns-in_default-clause-judged

pub several::condition-fits-requires : goal.several::condition-fits-requires
several::condition-fits-requires = condition.several::condition-fits-requires

pub several::condition-branch-d-requires : goal.several::condition-branch-d-requires
several::condition-branch-d-requires = condition.several::condition-branch-d-requires

pub several::condition-branch-d-requires-in-No : goal.several::condition-branch-d-requires-in-No
several::condition-branch-d-requires-in-No = condition.several::condition-branch-d-requires-in-No

pub several::condition-returns-in-Yes-clause-verdict : goal.several::condition-returns-in-Yes-clause-verdict
several::condition-returns-in-Yes-clause-verdict = condition.several::condition-returns-in-Yes-clause-verdict

pub several::condition-returns-in-Yes-clause-judged : goal.several::condition-returns-in-Yes-clause-judged
several::condition-returns-in-Yes-clause-judged = condition.several::condition-returns-in-Yes-clause-judged

pub several::condition-returns-in-No-clause-verdict : goal.several::condition-returns-in-No-clause-verdict
several::condition-returns-in-No-clause-verdict = condition.several::condition-returns-in-No-clause-verdict

pub several::condition-returns-in-No-clause-judged : goal.several::condition-returns-in-No-clause-judged
several::condition-returns-in-No-clause-judged = condition.several::condition-returns-in-No-clause-judged

pub several::condition-returns-in-Open-clause-judged : goal.several::condition-returns-in-Open-clause-judged
several::condition-returns-in-Open-clause-judged = condition.several::condition-returns-in-Open-clause-judged

-- ---- several schemas of the same value: all of a list, and those beside members

pub several::dependents-returns-in_default-clause-judged : goal.several::dependents-returns-in_default-clause-judged
several::dependents-returns-in_default-clause-judged = several.several::dependents-returns-in_default-clause-judged

pub several::dependents-returns-in_default-as_object-clause-judged : goal.several::dependents-returns-in_default-as_object-clause-judged
several::dependents-returns-in_default-as_object-clause-judged = several.several::dependents-returns-in_default-as_object-clause-judged

pub several::dependents-branch-d-requires : goal.several::dependents-branch-d-requires
several::dependents-branch-d-requires = several.several::dependents-branch-d-requires

pub several::dependents-loop-name-preserved : goal.several::dependents-loop-name-preserved
several::dependents-loop-name-preserved = several.several::dependents-loop-name-preserved

pub several::dependents-returns-clause-judged : goal.several::dependents-returns-clause-judged
several::dependents-returns-clause-judged = several.several::dependents-returns-clause-judged

pub several::dependencies-dependents-requires : goal.several::dependencies-dependents-requires
several::dependencies-dependents-requires = several.several::dependencies-dependents-requires

pub several::dependencies-returns-clause-verdict : goal.several::dependencies-returns-clause-verdict
several::dependencies-returns-clause-verdict = several.several::dependencies-returns-clause-verdict

pub several::each-fits-requires : goal.several::each-fits-requires
several::each-fits-requires = several.several::each-fits-requires

pub several::each-loop-schema-preserved : goal.several::each-loop-schema-preserved
several::each-loop-schema-preserved = several.several::each-loop-schema-preserved

pub several::each-returns-clause-verdict : goal.several::each-returns-clause-verdict
several::each-returns-clause-verdict = several.several::each-returns-clause-verdict

pub several::each-returns-clause-judged : goal.several::each-returns-clause-judged
several::each-returns-clause-judged = several.several::each-returns-clause-judged

pub several::each-returns-in_default-clause-verdict : goal.several::each-returns-in_default-clause-verdict
several::each-returns-in_default-clause-verdict = several.several::each-returns-in_default-clause-verdict

pub several::each-returns-in_default-clause-judged : goal.several::each-returns-in_default-clause-judged
several::each-returns-in_default-clause-judged = several.several::each-returns-in_default-clause-judged

-- ---- the items of a list, and how many fit

pub lists::contains-returns-in_default-clause-verdict : goal.lists::contains-returns-in_default-clause-verdict
lists::contains-returns-in_default-clause-verdict = items.lists::contains-returns-in_default-clause-verdict

pub lists::contains-returns-in_default-clause-judged : goal.lists::contains-returns-in_default-clause-judged
lists::contains-returns-in_default-clause-judged = items.lists::contains-returns-in_default-clause-judged

pub lists::contains-returns-in_default-as_array-clause-judged : goal.lists::contains-returns-in_default-as_array-clause-judged
lists::contains-returns-in_default-as_array-clause-judged = items.lists::contains-returns-in_default-as_array-clause-judged

pub lists::contains-count_of_fitting-requires : goal.lists::contains-count_of_fitting-requires
lists::contains-count_of_fitting-requires = items.lists::contains-count_of_fitting-requires

pub lists::contains-returns-clause-verdict : goal.lists::contains-returns-clause-verdict
lists::contains-returns-clause-verdict = items.lists::contains-returns-clause-verdict

pub lists::contains-returns-clause-judged : goal.lists::contains-returns-clause-judged
lists::contains-returns-clause-judged = items.lists::contains-returns-clause-judged

pub lists::items-part_at-requires : goal.lists::items-part_at-requires
lists::items-part_at-requires = items.lists::items-part_at-requires

pub lists::items-loop-place-preserved : goal.lists::items-loop-place-preserved
lists::items-loop-place-preserved = items.lists::items-loop-place-preserved

pub lists::count_of_fitting-part_at-requires : goal.lists::count_of_fitting-part_at-requires
lists::count_of_fitting-part_at-requires = items.lists::count_of_fitting-part_at-requires

pub lists::count_of_fitting-loop-place-preserved : goal.lists::count_of_fitting-loop-place-preserved
lists::count_of_fitting-loop-place-preserved = items.lists::count_of_fitting-loop-place-preserved

pub lists::items-returns-clause-verdict : goal.lists::items-returns-clause-verdict
lists::items-returns-clause-verdict = items.lists::items-returns-clause-verdict

pub lists::contains-returns-clause-keeps : goal.lists::contains-returns-clause-keeps
lists::contains-returns-clause-keeps = items.lists::contains-returns-clause-keeps

pub lists::items-returns-clause-keeps : goal.lists::items-returns-clause-keeps
lists::items-returns-clause-keeps = items.lists::items-returns-clause-keeps

pub lists::items-returns-in_err-part_at-clause-keeps : goal.lists::items-returns-in_err-part_at-clause-keeps
lists::items-returns-in_err-part_at-clause-keeps = items.lists::items-returns-in_err-part_at-clause-keeps

pub lists::count_of_fitting-returns-in_err-says-clause-keeps : goal.lists::count_of_fitting-returns-in_err-says-clause-keeps
lists::count_of_fitting-returns-in_err-says-clause-keeps = items.lists::count_of_fitting-returns-in_err-says-clause-keeps

-- ---- the members of an object, and the patterns that a key matches

pub objects::members-loop-place-init : goal.objects::members-loop-place-init
objects::members-loop-place-init = members.objects::members-loop-place-init

pub objects::members-member_at-requires : goal.objects::members-member_at-requires
objects::members-member_at-requires = members.objects::members-member_at-requires

pub objects::members-loop-place-preserved : goal.objects::members-loop-place-preserved
objects::members-loop-place-preserved = members.objects::members-loop-place-preserved

pub objects::one_member-alone-requires : goal.objects::one_member-alone-requires
objects::one_member-alone-requires = members.objects::one_member-alone-requires

pub objects::one_member-alone-requires-2 : goal.objects::one_member-alone-requires-2
objects::one_member-alone-requires-2 = members.objects::one_member-alone-requires-2

pub objects::one_member-returns-clause-verdict : goal.objects::one_member-returns-clause-verdict
objects::one_member-returns-clause-verdict = members.objects::one_member-returns-clause-verdict

pub objects::matching-alone-requires : goal.objects::matching-alone-requires
objects::matching-alone-requires = members.objects::matching-alone-requires

pub objects::matching-loop-pattern-preserved-then-matches : goal.objects::matching-loop-pattern-preserved-then-matches
objects::matching-loop-pattern-preserved-then-matches = members.objects::matching-loop-pattern-preserved-then-matches

pub objects::matching-loop-pattern-preserved : goal.objects::matching-loop-pattern-preserved
objects::matching-loop-pattern-preserved = members.objects::matching-loop-pattern-preserved

pub objects::matching-returns-clause-says : goal.objects::matching-returns-clause-says
objects::matching-returns-clause-says = members.objects::matching-returns-clause-says

pub objects::matching-returns-clause-some : goal.objects::matching-returns-clause-some
objects::matching-returns-clause-some = members.objects::matching-returns-clause-some

pub objects::members-returns-clause-verdict : goal.objects::members-returns-clause-verdict
objects::members-returns-clause-verdict = members.objects::members-returns-clause-verdict

pub objects::members-returns-clause-keeps : goal.objects::members-returns-clause-keeps
objects::members-returns-clause-keeps = members.objects::members-returns-clause-keeps

pub objects::members-returns-in_err-member_at-clause-keeps : goal.objects::members-returns-in_err-member_at-clause-keeps
objects::members-returns-in_err-member_at-clause-keeps = members.objects::members-returns-in_err-member_at-clause-keeps

-- ---- the parts without a mark

pub rest::unevaluated_items-part_at-requires : goal.rest::unevaluated_items-part_at-requires
rest::unevaluated_items-part_at-requires = left.rest::unevaluated_items-part_at-requires

pub rest::unevaluated_items-loop-place-preserved : goal.rest::unevaluated_items-loop-place-preserved
rest::unevaluated_items-loop-place-preserved = left.rest::unevaluated_items-loop-place-preserved

pub rest::unevaluated_members-part_at-requires : goal.rest::unevaluated_members-part_at-requires
rest::unevaluated_members-part_at-requires = left.rest::unevaluated_members-part_at-requires

pub rest::unevaluated_members-loop-place-preserved : goal.rest::unevaluated_members-loop-place-preserved
rest::unevaluated_members-loop-place-preserved = left.rest::unevaluated_members-loop-place-preserved

pub rest::unevaluated_members-returns-clause-verdict : goal.rest::unevaluated_members-returns-clause-verdict
rest::unevaluated_members-returns-clause-verdict = left.rest::unevaluated_members-returns-clause-verdict

pub rest::unevaluated_items-returns-clause-verdict : goal.rest::unevaluated_items-returns-clause-verdict
rest::unevaluated_items-returns-clause-verdict = left.rest::unevaluated_items-returns-clause-verdict

pub rest::unevaluated_items-returns-in_err-part_at-clause-keeps : goal.rest::unevaluated_items-returns-in_err-part_at-clause-keeps
rest::unevaluated_items-returns-in_err-part_at-clause-keeps = left.rest::unevaluated_items-returns-in_err-part_at-clause-keeps

pub rest::unevaluated_members-returns-in_err-part_at-clause-keeps : goal.rest::unevaluated_members-returns-in_err-part_at-clause-keeps
rest::unevaluated_members-returns-in_err-part_at-clause-keeps = left.rest::unevaluated_members-returns-in_err-part_at-clause-keeps
