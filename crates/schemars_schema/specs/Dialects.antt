-- How the drafts of JSON Schema, and OpenAPI, differ in what they read.
-- This file is trusted: the theorem is stated in its words.
use Rattle.std.specs.Prelude.{◌&&◌, Bool, true, false, not}

-- how the drafts differ
pub record Dialect : Type 0 where
  -- the siblings of `$ref` are judged too
  pub judges_siblings : Bool
  -- `prefixItems` judges by position, and not a list under `items`
  pub reads_prefix_items : Bool
  pub reads_nullable : Bool
  -- `const` is read, with the other keywords that came with Drafts 6 and 7
  pub reads_const : Bool
  -- `unevaluatedProperties` is read, with the other keywords that came with Draft 2019-09
  pub reads_unevaluated : Bool

-- `dependencies` came with `const` or before, and Draft 2019-09 has two keywords in its place
abbrev pub reads_dependencies : Dialect → Bool
reads_dependencies d = d.reads_const && not d.reads_unevaluated

abbrev pub draft2020_12 : Dialect
draft2020_12 = record {
  judges_siblings = true;
  reads_prefix_items = true;
  reads_nullable = false;
  reads_const = true;
  reads_unevaluated = true;
}

abbrev pub draft2019_09 : Dialect
draft2019_09 = record {
  judges_siblings = true;
  reads_prefix_items = false;
  reads_nullable = false;
  reads_const = true;
  reads_unevaluated = true;
}

abbrev pub draft07 : Dialect
draft07 = record {
  judges_siblings = false;
  reads_prefix_items = false;
  reads_nullable = false;
  reads_const = true;
  reads_unevaluated = false;
}

abbrev pub openapi3 : Dialect
openapi3 = record {
  judges_siblings = false;
  reads_prefix_items = false;
  reads_nullable = true;
  reads_const = false;
  reads_unevaluated = false;
}
