-- A rewrite of every schema inside a schema, as a function on trees: each after those inside it.
use Rattle.serde_json.specs.Data.{Data, null, boolean, number, string, array, object, Items, no_items, item, Members, no_members, member}
use Rattle.schemars_schema.specs.Json.{Text}
use Rattle.schemars_schema.specs.References.{Place, NoSchemas, OneSchema, SchemaList, SchemaOrList, SchemasByName, place_under}

-- the rule inside a schema, where schemas are under a keyword, and what a schema becomes whose subschemas are done
pub record Rules (R : Type 0) : Type 0 where
  pub inside : R → Data → R
  pub place : R → Text → Data → Place
  pub finish : R → Data → Data

-- a value, rewritten as a schema, as a list of schemas, as either, and as schemas by name
pub record Forms : Type 0 where
  pub as_schema : Data
  pub as_list : Data
  pub as_either : Data
  pub by_name : Data

abbrev pub unread : Data → Forms
unread d = record { as_schema = d; as_list = d; as_either = d; by_name = d }

abbrev pub form_at : Place → Data → Forms → Data
form_at NoSchemas d f = d
form_at OneSchema d f = f.as_schema
form_at SchemaList d f = f.as_list
form_at SchemaOrList d f = f.as_either
form_at SchemasByName d f = f.by_name

unfoldable mutual
  pub forms : {R : Type 0} → Rules R → R → Data → Forms
  forms ρ r null = unread null
  forms ρ r (boolean b) = record {
    as_schema = ρ.finish (ρ.inside r (boolean b)) (boolean b);
    as_list = boolean b;
    as_either = ρ.finish
        (ρ.inside r (boolean b)) (boolean b);
    by_name = boolean b;
  }
  forms ρ r (number n) = unread (number n)
  forms ρ r (string s) = unread (string s)
  forms ρ r (array ds) = record {
    as_schema = array ds;
    as_list = array (in_items ρ r ds);
    as_either = array (in_items ρ r ds);
    by_name =
        array ds;
  }
  forms ρ r (object ms) = record {
    as_schema = ρ.finish (ρ.inside r (object ms)) (object (in_keywords ρ (ρ.inside r (object ms)) ms));
    as_list = object ms;
    as_either = ρ.finish (ρ.inside r (object ms)) (object (in_keywords ρ (ρ.inside r (object ms)) ms));
    by_name = object (in_names ρ r ms);
  }

  pub in_items : {R : Type 0} → Rules R → R → Items → Items
  in_items ρ r no_items = no_items
  in_items ρ r (item d ds) = item ((forms ρ r d).as_schema) (in_items ρ r ds)

  pub in_names : {R : Type 0} → Rules R → R → Members → Members
  in_names ρ r no_members = no_members
  in_names ρ r (member k d ms) = member k ((forms ρ r d).as_schema) (in_names ρ r ms)

  pub in_keywords : {R : Type 0} → Rules R → R → Members → Members
  in_keywords ρ r no_members = no_members
  in_keywords ρ r (member k d ms) = member k (form_at (ρ.place r k d) d (forms ρ r d)) (in_keywords ρ r ms)

abbrev pub read_at : {R : Type 0} → Rules R → Place → R → Data → Data
read_at ρ p r d = form_at p d (forms ρ r d)

abbrev pub as_schema_in : {R : Type 0} → Rules R → R → Data → Data
as_schema_in ρ r d = (forms ρ r d).as_schema

-- a schema, rewritten
abbrev pub rewritten : {R : Type 0} → Rules R → R → Data → Data
rewritten ρ r d = (forms ρ r d).as_schema

-- the schemas inside a schema, rewritten
abbrev pub with_subschemas : {R : Type 0} → Rules R → R → Data → Data
with_subschemas ρ r null = null
with_subschemas ρ r (boolean b) = boolean b
with_subschemas ρ r (number n) = number n
with_subschemas ρ r (string s) = string s
with_subschemas ρ r (array ds) = array ds
with_subschemas ρ r (object ms) = object (in_keywords ρ r ms)

-- the same change at every schema, whatever is around it
abbrev pub everywhere : {R : Type 0} → (R → Data → Data) → Rules R
everywhere change = record { inside = λ r s. r; place = λ r k d. place_under k; finish = change }

abbrev pub all_changed : (Data → Data) → Data → Data
all_changed change d = rewritten {R = Unit {0}} (everywhere (λ r s. change s)) tt d
