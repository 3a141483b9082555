-- What the builders make of texts and schemas, computed.
use Rattle.std.proofs.Common.{◌≡◌, [], ◌∷◌, true, false, refl}
use Rattle.schemars_builders.proofs.Words.{codes, String, Data, boolean, number, unsigned, array, no_items, item, object_of, text, one, title_in, description_in, with_metadata, with_validation, escaped, unescaped}

-- ---- texts in regular expressions

dots_and_hyphens : escaped (codes "a.b-c") ≡ codes "a\\.b\\-c"
unfolding escaped
dots_and_hyphens = refl

all_special : escaped (codes "\\.+*?()|[]{}^$#&-~") ≡ codes "\\\\\\.\\+\\*\\?\\(\\)\\|\\[\\]\\{\\}\\^\\$\\#\\&\\-\\~"
unfolding escaped
all_special = refl

others_stay : escaped (codes "a_/ \"é,:<=>@!%'`;") ≡ codes "a_/ \"é,:<=>@!%'`;"
unfolding escaped
others_stay = refl

backslashes_go : unescaped (codes "a\\.\\\\") ≡ codes "a.\\"
unfolding unescaped
backslashes_go = refl

-- ---- titles and descriptions

heading : title_in (codes "# T\nrest") ≡ codes "T"
heading = refl

after_heading : description_in (codes "# T\nrest") ≡ codes "rest"
after_heading = refl

only_heading : title_in (codes "  ## X ") ≡ codes "X"
only_heading = refl

nothing_after_heading : description_in (codes "  ## X ") ≡ []
nothing_after_heading = refl

no_heading : title_in (codes " one\n# two\n") ≡ []
no_heading = refl

description_alone : description_in (codes " one\n# two\n") ≡ codes "one\n# two"
description_alone = refl

lines_between : description_in (codes "# T #\r\n\n one\n\ttwo \n") ≡ codes "one\n\ttwo"
lines_between = refl

later_mark_stays : title_in (codes "#T #\r\n") ≡ codes "T #"
later_mark_stays = refl

-- a vertical tab, 11, is no white space here, and a form feed, 12, is
vertical_tab_stays : description_in (12 ∷ 11 ∷ codes "x") ≡ 11 ∷ codes "x"
vertical_tab_stays = refl

-- ---- keywords

abbrev two : String → Data → String → Data → Data
two k d l e = object_of ((codes k, d) ∷ (codes l, e) ∷ [])

abbrev minimum : Data → Data
minimum schema = with_validation (codes "number") (codes "minimum") (number (unsigned 1)) schema

text_joins : with_metadata (codes "title") (codes "T") (one "type" (text "string"))
    ≡ two "type" (text "string") "title" (text "T")
text_joins = refl

text_replaces : with_metadata (codes "title") (codes "T") (one "title" (text "S")) ≡ one "title" (text "T")
text_replaces = refl

empty_text : with_metadata (codes "title") [] (boolean false) ≡ boolean false
empty_text = refl

title_of_all : with_metadata (codes "title") (codes "T") (boolean true) ≡ one "title" (text "T")
title_of_all = refl

title_of_none : with_metadata (codes "title") (codes "T") (boolean false) ≡ two "not" (object_of []) "title" (text "T")
title_of_none = refl

whole_numbers : minimum (one "type" (text "integer")) ≡ two "type" (text "integer") "minimum" (number (unsigned 1))
whole_numbers = refl

listed_type : minimum (one "type" (array (item (text "null") (item (text "number") no_items))))
    ≡ two "type" (array (item (text "null") (item (text "number") no_items))) "minimum" (number (unsigned 1))
listed_type = refl

other_type : minimum (one "type" (text "string")) ≡ one "type" (text "string")
other_type = refl

no_type : minimum (one "title" (text "number")) ≡ one "title" (text "number")
no_type = refl

truth_value : minimum (boolean true) ≡ boolean true
truth_value = refl

numbers_are_not_whole : with_validation (codes "integer") (codes "minimum") (number (unsigned 1))
    (one "type" (text "number")) ≡ one "type" (text "number")
numbers_are_not_whole = refl
