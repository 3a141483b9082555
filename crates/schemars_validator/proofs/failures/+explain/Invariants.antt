-- What is left to go down, and the step within one schema.
use Rattle.std.proofs.Common.{◌+◌, ◌*◌}
use Rattle.schemars_validator.proofs.failures.+explain.Given as goal

abbrev pub decreases-explain : goal.decreases-explain
decreases-explain l = l.left * 9 + 2

abbrev pub decreases-explain_denied : goal.decreases-explain_denied
decreases-explain_denied l = l.left * 9 + 1

abbrev pub decreases-explain_referred : goal.decreases-explain_referred
decreases-explain_referred l = l.left * 9 + 2

abbrev pub decreases-explain_way : goal.decreases-explain_way
decreases-explain_way l = l.left * 9 + 3

abbrev pub decreases-explain_ways : goal.decreases-explain_ways
decreases-explain_ways l = l.left * 9 + 4

abbrev pub decreases-explain_each : goal.decreases-explain_each
decreases-explain_each l = l.left * 9 + 4

abbrev pub decreases-explain_part : goal.decreases-explain_part
decreases-explain_part l = l.left * 9 + 5

abbrev pub decreases-explain_key : goal.decreases-explain_key
decreases-explain_key l = l.left * 9 + 5

abbrev pub decreases-explain_rest : goal.decreases-explain_rest
decreases-explain_rest l = l.left * 9 + 5

abbrev pub decreases-explain_choice : goal.decreases-explain_choice
decreases-explain_choice l = l.left * 9 + 5

abbrev pub decreases-explain_parts : goal.decreases-explain_parts
decreases-explain_parts l = l.left * 9 + 6

abbrev pub decreases-explain_keys : goal.decreases-explain_keys
decreases-explain_keys l = l.left * 9 + 6

abbrev pub decreases-explain_same : goal.decreases-explain_same
decreases-explain_same l = l.left * 9 + 6

abbrev pub decreases-explain_choices : goal.decreases-explain_choices
decreases-explain_choices l = l.left * 9 + 6

abbrev pub decreases-explain_unjudged : goal.decreases-explain_unjudged
decreases-explain_unjudged l = l.left * 9 + 6

abbrev pub decreases-explain_inside : goal.decreases-explain_inside
decreases-explain_inside l = l.left * 9 + 7

abbrev pub decreases-explain_object : goal.decreases-explain_object
decreases-explain_object l = l.left * 9 + 8
