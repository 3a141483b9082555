-- The names of types with null among them, and without.
use Rattle.std.proofs.Common.{◌≡◌, List, [], ◌∷◌, Option, Some, None, Bool, true, false, codes, refl, sym, ap, ◌∙◌}
use Rattle.schemars_laws.proofs.Words.{bytes_eq, if◌then◌else◌, ◌||◌, ◌&&◌, bytes_eq-Decides, and_parts, or-false, and-true, Data, null, boolean, number, string, array, object, Items, no_items, item, Text, is_listed, Verdict, verdict, type_names, is_of_type, is_of_some_type, texts_in, are_type_names, when, types_in, is_null, type_fits, type_says, where_some, bytes_eq_comm, holds_text, all_null, without_null, one_or_list, type_without_null, AreTexts}

-- ---- texts of a list

abbrev texts : Items → List Text
texts no_items = []
texts (item null ds) = texts ds
texts (item (boolean b) ds) = texts ds
texts (item (number n) ds) = texts ds
texts (item (string s) ds) = s ∷ texts ds
texts (item (array es) ds) = texts ds
texts (item (object ms) ds) = texts ds

texts_in-texts : (ds : Items) → AreTexts ds → texts_in ds ≡ Some (texts ds)
texts_in-texts no_items are = refl
texts_in-texts (item (string s) ds) are = rw (texts_in-texts ds are.1) refl
texts_in-texts (item null ds) are = absurd are.0
texts_in-texts (item (boolean b) ds) are = absurd are.0
texts_in-texts (item (number n) ds) are = absurd are.0
texts_in-texts (item (array es) ds) are = absurd are.0
texts_in-texts (item (object ms) ds) are = absurd are.0

abbrev others : List Text → List Text
others [] = []
others (s ∷ ss) = if bytes_eq s (codes "null") then others ss else s ∷ others ss

without-texts : (ds : Items) → AreTexts ds → AreTexts (without_null ds) × (texts (without_null ds) ≡ others (texts ds))
without-texts no_items are = (tt, refl)
without-texts (item (string s) ds) are = go (bytes_eq s (codes "null")) (without-texts ds are.1)
  where
    go : (b : Bool) → AreTexts (without_null ds) × (texts (without_null ds) ≡ others (texts ds))
        → AreTexts (if b then without_null ds else item (string s) (without_null ds))
        × (texts (if b then without_null ds else item (string s) (without_null ds))
        ≡ (if b then others (texts ds) else s ∷ others (texts ds)))
    go true rest = rest
    go false rest = ((tt, rest.0), ap (λ ss. s ∷ ss) rest.1)
without-texts (item null ds) are = absurd are.0
without-texts (item (boolean b) ds) are = absurd are.0
without-texts (item (number n) ds) are = absurd are.0
without-texts (item (array es) ds) are = absurd are.0
without-texts (item (object ms) ds) are = absurd are.0

holds-listed : (ds : Items) → AreTexts ds → holds_text (codes "null") ds ≡ is_listed (codes "null") (texts ds)
holds-listed no_items are = refl
holds-listed (item (string s) ds) are =
    ap (λ b. b || holds_text (codes "null") ds) (bytes_eq_comm s (codes "null"))
    ∙ ap (λ b. bytes_eq (codes "null") s || b) (holds-listed ds are.1)
holds-listed (item null ds) are = absurd are.0
holds-listed (item (boolean b) ds) are = absurd are.0
holds-listed (item (number n) ds) are = absurd are.0
holds-listed (item (array es) ds) are = absurd are.0
holds-listed (item (object ms) ds) are = absurd are.0

-- ---- null among names

others-lack : (ss : List Text) → is_listed (codes "null") (others ss) ≡ false
others-lack [] = refl
others-lack (s ∷ ss) = go (bytes_eq s (codes "null")) refl (others-lack ss)
  where
    go : (b : Bool) → bytes_eq s (codes "null") ≡ b → is_listed (codes "null") (others ss) ≡ false
        → is_listed (codes "null") (if b then others ss else s ∷ others ss) ≡ false
    go true is rest = rest
    go false is rest = ap (λ b. b || is_listed (codes "null") (others ss)) (bytes_eq_comm (codes "null") s ∙ is) ∙ rest

others-names : (ss : List Text) → are_type_names (others ss) ≡ are_type_names ss
others-names [] = refl
others-names (s ∷ ss) = go (bytes_eq s (codes "null")) refl (others-names ss)
  where
    go : (b : Bool) → bytes_eq s (codes "null") ≡ b → are_type_names (others ss) ≡ are_type_names ss
        → are_type_names (if b then others ss else s ∷ others ss) ≡ is_listed s type_names && are_type_names ss
    go true is rest =
        rest ∙ ap (λ x. is_listed x type_names && are_type_names ss) (sym ((bytes_eq-Decides s (codes "null")).0 is))
    go false is rest = ap (λ b. is_listed s type_names && b) rest

null-type : (v : Data) → is_of_type (codes "null") v ≡ is_null v
null-type null = refl
null-type _ = refl

first-null : (n w l : Bool) → n || (w || (l && n)) ≡ w || ((true || l) && n)
first-null true true l = refl
first-null true false l = refl
first-null false true l = refl
first-null false false true = refl
first-null false false false = refl

first-other : (b w l n : Bool) → b || (w || (l && n)) ≡ (b || w) || ((false || l) && n)
first-other true w l n = refl
first-other false w l n = refl

others-types : (ss : List Text) (v : Data)
    → is_of_some_type ss v ≡ is_of_some_type (others ss) v || (is_listed (codes "null") ss && is_null v)
others-types [] v = refl
others-types (s ∷ ss) v = go (bytes_eq s (codes "null")) refl (others-types ss v)
  where
    go : (b : Bool) → bytes_eq s (codes "null") ≡ b
        → is_of_some_type ss v ≡ is_of_some_type (others ss) v || (is_listed (codes "null") ss && is_null v)
        → is_of_type s v || is_of_some_type ss v
        ≡ is_of_some_type (if b then others ss else s ∷ others ss) v
        || ((bytes_eq (codes "null") s || is_listed (codes "null") ss) && is_null v)
    go true is rest =
        let same : s ≡ codes "null" = (bytes_eq-Decides s (codes "null")).0 is in
        ap (λ b. b || is_of_some_type ss v) (ap (λ x. is_of_type x v) same ∙ null-type v)
        ∙ (ap (λ b. is_null v || b) rest
        ∙ (first-null (is_null v) (is_of_some_type (others ss) v) (is_listed (codes "null") ss)
        ∙ ap (λ b. is_of_some_type (others ss) v || ((b || is_listed (codes "null") ss) && is_null v))
        (sym (bytes_eq_comm (codes "null") s ∙ is))))
    go false is rest =
        ap (λ b. is_of_type s v || b) rest
        ∙ (first-other (is_of_type s v) (is_of_some_type (others ss) v) (is_listed (codes "null") ss) (is_null v)
        ∙ ap (λ b. (is_of_type s v || is_of_some_type (others ss) v) || ((b || is_listed (codes "null") ss) && is_null v))
        (sym (bytes_eq_comm (codes "null") s ∙ is)))

-- ---- what `type` says, with null in it and without

-- what names say, where they all are names of types
abbrev by_names : Bool → Option Data → Bool → List Text → Data → Verdict
by_names reads nullable are ss v = where_some (when are ss) (λ ts. verdict (type_fits reads nullable ts v))

-- names without null say the same in both
names-missing : (are : Bool) (ss : List Text) (v : Data) → is_listed (codes "null") ss ≡ false
    → by_names true None are ss v ≡ by_names false None are ss v
names-missing false ss v lack = refl
names-missing true ss v lack =
    ap (λ b. verdict (b || (is_of_some_type ss v || false))) lack ∙ ap verdict (or-false (is_of_some_type ss v))

pub text-missing : (s : Text) (v : Data) → bytes_eq s (codes "null") ≡ false
    → type_says true (Some (string s)) None v ≡ type_says false (Some (string s)) None v
text-missing s v is =
    names-missing (is_listed s type_names) (s ∷ []) v (ap (λ b. b || false) (bytes_eq_comm (codes "null") s ∙ is))

list-names : (reads : Bool) (nullable : Option Data) (ds : Items) (v : Data) → AreTexts ds
    → type_says reads (Some (array ds)) nullable v ≡ by_names reads nullable (are_type_names (texts ds)) (texts ds) v
list-names reads nullable ds v are = rw (texts_in-texts ds are) refl

pub list-missing : (ds : Items) (v : Data) → AreTexts ds → holds_text (codes "null") ds ≡ false
    → type_says true (Some (array ds)) None v ≡ type_says false (Some (array ds)) None v
list-missing ds v are lack =
    list-names true None ds v are
    ∙ (names-missing (are_type_names (texts ds)) (texts ds) v (sym (holds-listed ds are) ∙ lack) ∙ sym (list-names false None ds v are))

-- null alone
pub text-alone : (s : Text) (v : Data) → bytes_eq s (codes "null") ≡ true → type_says false (Some (string s)) None v ≡ verdict (is_null v)
text-alone s v is =
    ap (λ x. type_says false (Some (string x)) None v) ((bytes_eq-Decides s (codes "null")).0 is)
    ∙ ap verdict (or-false (is_of_type (codes "null") v) ∙ null-type v)

all-others : (ds : Items) → AreTexts ds → all_null ds ≡ true → others (texts ds) ≡ []
all-others no_items are all = refl
all-others (item (string s) ds) are all =
    let parts = and_parts (bytes_eq s (codes "null")) (all_null ds) all in
    ap (λ b. if b then others (texts ds) else s ∷ others (texts ds)) parts.0 ∙ all-others ds are.1 parts.1
all-others (item null ds) are all = absurd are.0
all-others (item (boolean b) ds) are all = absurd are.0
all-others (item (number n) ds) are all = absurd are.0
all-others (item (array es) ds) are all = absurd are.0
all-others (item (object ms) ds) are all = absurd are.0

pub list-alone : (ds : Items) (v : Data) → AreTexts ds → holds_text (codes "null") ds ≡ true → all_null ds ≡ true
    → type_says false (Some (array ds)) None v ≡ verdict (is_null v)
list-alone ds v are holds all =
    let gone = all-others ds are all in
    list-names false None ds v are
    ∙ (ap (λ b. by_names false None b (texts ds) v) (sym (others-names (texts ds)) ∙ ap are_type_names gone)
    ∙ ap verdict (others-types (texts ds) v ∙ (ap (λ ss. is_of_some_type ss v || (is_listed (codes "null") (texts ds) && is_null v)) gone
    ∙ ap (λ b. b && is_null v) (sym (holds-listed ds are) ∙ holds))))

one-or-list : (ds : Items) → AreTexts ds → types_in (one_or_list ds) ≡ when (are_type_names (texts ds)) (texts ds)
one-or-list no_items are = refl
one-or-list (item (string s) no_items) are = ap (λ b. when b (s ∷ [])) (sym (and-true (is_listed s type_names)))
one-or-list (item d (item e ds)) are = rw (texts_in-texts (item d (item e ds)) are) refl
one-or-list (item null no_items) are = absurd are.0
one-or-list (item (boolean b) no_items) are = absurd are.0
one-or-list (item (number n) no_items) are = absurd are.0
one-or-list (item (array es) no_items) are = absurd are.0
one-or-list (item (object ms) no_items) are = absurd are.0

pub list-among : (ds : Items) (v : Data) → AreTexts ds → holds_text (codes "null") ds ≡ true
    → type_says true (Some (type_without_null (array ds))) (Some (boolean true)) v ≡ type_says false (Some (array ds)) None v
list-among ds v are holds =
    let rest = without-texts ds are in
    ap (λ ts. where_some ts (λ ss. verdict (type_fits true (Some (boolean true)) ss v)))
    (one-or-list (without_null ds) rest.0 ∙ ap (λ ss. when (are_type_names ss) ss) rest.1)
    ∙ (ap (λ b. by_names true (Some (boolean true)) b (others (texts ds)) v) (others-names (texts ds))
    ∙ (same (are_type_names (texts ds))
    ∙ sym (list-names false None ds v are)))
  where
    same : (b : Bool) → by_names true (Some (boolean true)) b (others (texts ds)) v ≡ by_names false None b (texts ds) v
    same false = refl
    same true =
        ap (λ b. verdict (b || (is_of_some_type (others (texts ds)) v || is_null v))) (others-lack (texts ds))
        ∙ ap verdict (sym (others-types (texts ds) v
        ∙ ap (λ b. is_of_some_type (others (texts ds)) v || (b && is_null v)) (sym (holds-listed ds are) ∙ holds)))
