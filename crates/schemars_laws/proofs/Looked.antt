-- Look-ups in members of which one is taken out, and rewrites that change every schema alike.
use Rattle.std.proofs.Common.{◌≡◌, ◌≢◌, inl, List, Option, Some, None, Bool, option_map, refl, sym, ap, ◌∙◌, subst}
use Rattle.schemars_laws.proofs.Words.{Data, null, boolean, number, string, array, object, Members, get_member, Text, IsSchema, without, NoSchemas, SchemaList, SchemaOrList, SchemasByName, place_under, Dialect, Context, judge, keywords, truth_value, read_members, reading_at, unequal, get_member-without, Rules, everywhere, rewritten, in_keywords, read_at, keywords_get, IsMap, IsOnce, HasNone, IsSchemaList, IsNoList, HasPlainItems, forms}
use Rattle.schemars_laws.proofs.Moved.{Moves}
use Rattle.schemars_laws.proofs.Walking.{raw-walked as raw-walked_by, none-walked as none-walked_by, nones-walked as nones-walked_by, once-walked as once-walked_by, list-walked as list-walked_by, no_list-walked as no_list-walked_by, items-walked as items-walked_by}

pub without-other : (k l : Text) (ms : Members) → l ≢ k → get_member l (without k ms) ≡ get_member l ms
without-other k l ms apart = get_member-without l k ms (unequal l k apart)

-- ---- rewrites that change every schema alike

abbrev pub change_rules : (Data → Data) → Rules (Unit {0})
change_rules f = everywhere {R = Unit {0}} (λ r s. f s)

-- the members of a schema, with its subschemas done
abbrev pub walked : (Data → Data) → Members → Members
walked f ms = in_keywords (change_rules f) tt ms

-- What is asked of a change of one schema. It is made on members whose subschemas are done.
pub record Change (f : Data → Data) (key : Text) (old new : Dialect) (Q : Members → Type 0) : Type 0 where
  pub schema : (s : Data) → IsSchema s → IsSchema (f s)
  pub of_truth : (c : Context) (b : Bool) → c.dialect ≡ new → judge c (f (boolean b)) ≡ truth_value b
  pub of_object : (c : Context) (ms : Members) → c.dialect ≡ new → Q ms
      → judge c (f (object (walked f ms)))
      ≡ keywords (record c { dialect = old }) (λ k. get_member k (walked f ms)) (reading_at (read_members c (walked f ms)))
  pub definitions : (ms : Members) → (ns : Members) × (f (object ms) ≡ object ns) × (get_member key ns ≡ get_member key ms)

pub moves : (f : Data → Data) (key : Text) (old new : Dialect) (Q : Members → Type 0) → Change f key old new Q
    → Moves (change_rules f) key old new Q
moves f key old new Q h = record {
  rewrites = record {
    place = λ r k d. inl refl;
    schema = λ r s is. h.schema s is;
    of_truth = λ c r b is. h.of_truth c b is;
    of_object = λ c r ms is q. h.of_object c ms is q;
  };
  definitions = λ r ms. h.definitions ms;
}

-- ---- they go down under each keyword, as references say

abbrev pub AnyKey : Text → Type 0
AnyKey k = Unit {0}

pub goes-down : (f : Data → Data) (r : Unit {0}) (k : Text) (d : Data) → AnyKey k → (change_rules f).place r k d ≡ place_under k
goes-down f r k d any = refl

pub raw-walked : (f : Data → Data) (k : Text) (ms : Members) → place_under k ≡ NoSchemas → get_member k (walked f ms) ≡ get_member k ms
raw-walked f k ms none = raw-walked_by (change_rules f) AnyKey (goes-down f) tt k ms tt none

pub none-walked : (f : Data → Data) (k : Text) (ms : Members) → get_member k ms ≡ None → get_member k (walked f ms) ≡ None
none-walked f k ms none = none-walked_by (change_rules f) AnyKey (goes-down f) tt k ms none

pub nones-walked : (f : Data → Data) (ks : List Text) (ms : Members) → HasNone ks ms → HasNone ks (walked f ms)
nones-walked f ks ms none = nones-walked_by (change_rules f) AnyKey (goes-down f) tt ks ms none

pub once-walked : (f : Data → Data) (k : Text) (ms : Members) → IsOnce k ms → IsOnce k (walked f ms)
once-walked f k ms once = once-walked_by (change_rules f) AnyKey (goes-down f) tt k ms once

module _ (f : Data → Data) (kept : (s : Data) → IsSchema s → IsSchema (f s)) where
  pub list-walked : (k : Text) (ms : Members) → place_under k ≡ SchemaList → IsSchemaList (get_member k ms)
      → IsSchemaList (get_member k (walked f ms))
  list-walked k ms at is = list-walked_by (change_rules f) AnyKey (goes-down f) (λ r s is. kept s is) tt k ms tt at is

  pub no_list-walked : (k : Text) (ms : Members) → place_under k ≡ SchemaOrList → IsNoList (get_member k ms)
      → IsNoList (get_member k (walked f ms))
  no_list-walked k ms at is = no_list-walked_by (change_rules f) AnyKey (goes-down f) (λ r s is. kept s is) tt k ms tt at is

  pub items-walked : (ms : Members) → HasPlainItems ms → HasPlainItems (walked f ms)
  items-walked ms plain = items-walked_by (change_rules f) AnyKey (goes-down f) (λ r s is. kept s is) tt tt tt ms plain

-- ---- a changed document has its definitions where they were

map-form : (f : Data → Data) (o : Option Data) → IsMap o → IsMap (option_map (λ d. (forms (change_rules f) tt d).by_name) o)
unfolding forms
map-form f None is = tt
map-form f (Some (object es)) is = tt
map-form f (Some null) is = absurd is
map-form f (Some (boolean b)) is = absurd is
map-form f (Some (number n)) is = absurd is
map-form f (Some (string s)) is = absurd is
map-form f (Some (array ds)) is = absurd is

pub map-walked : (f : Data → Data) (key : Text) (ms : Members) → place_under key ≡ SchemasByName → IsMap (get_member key ms)
    → IsMap (get_member key (walked f ms))
map-walked f key ms at is =
    subst IsMap (sym (keywords_get (change_rules f) tt key ms
    ∙ ap (λ p. option_map (λ d. read_at (change_rules f) p tt d) (get_member key ms)) at)) (map-form f (get_member key ms) is)

pub changed-document : (f : Data → Data) (key : Text) (ms : Members) → place_under key ≡ SchemasByName → IsMap (get_member key ms)
    → (ns : Members) × (f (object (walked f ms)) ≡ object ns) × (get_member key ns ≡ get_member key (walked f ms))
    → (ns : Members) × (rewritten (change_rules f) tt (object ms) ≡ object ns) × IsMap (get_member key ns)
unfolding forms
changed-document f key ms at map stays =
    (stays.0, stays.1, subst IsMap (sym stays.2) (map-walked f key ms at map))
