-- Values that are lists or objects, and values that are not.
use Rattle.std.proofs.Common.{◌≡◌, Bool, Some, None}
use Rattle.schemars_schema.proofs.Words.{Num, Data, null, boolean, number, string, array, object, Items, Members, as_array, as_object, Text}

pub array-as_array : (d : Data) (ds : Items) → Some ds ≡ as_array d → d ≡ array ds
array-as_array (array es) ds e = cc
array-as_array _ ds e = cc

-- what holds of every value but lists
pub not_array : (P : Data → Type 0) → P null → ((b : Bool) → P (boolean b)) → ((n : Num) → P (number n)) → ((s : Text) → P (string s))
    → ((ms : Members) → P (object ms)) → (d : Data) → None ≡ as_array d → P d
not_array P of_null of_boolean of_number of_string of_object null e = of_null
not_array P of_null of_boolean of_number of_string of_object (boolean b) e = of_boolean b
not_array P of_null of_boolean of_number of_string of_object (number n) e = of_number n
not_array P of_null of_boolean of_number of_string of_object (string s) e = of_string s
not_array P of_null of_boolean of_number of_string of_object (array ds) e = cc
not_array P of_null of_boolean of_number of_string of_object (object ms) e = of_object ms

pub object-as_object : (d : Data) (ms : Members) → Some ms ≡ as_object d → d ≡ object ms
object-as_object (object ns) ms e = cc
object-as_object _ ms e = cc

-- what holds of every value but objects
pub not_object : (P : Data → Type 0) → P null → ((b : Bool) → P (boolean b)) → ((n : Num) → P (number n)) → ((s : Text) → P (string s))
    → ((ds : Items) → P (array ds)) → (d : Data) → None ≡ as_object d → P d
not_object P of_null of_boolean of_number of_string of_array null e = of_null
not_object P of_null of_boolean of_number of_string of_array (boolean b) e = of_boolean b
not_object P of_null of_boolean of_number of_string of_array (number n) e = of_number n
not_object P of_null of_boolean of_number of_string of_array (string s) e = of_string s
not_object P of_null of_boolean of_number of_string of_array (array ds) e = of_array ds
not_object P of_null of_boolean of_number of_string of_array (object ms) e = cc
