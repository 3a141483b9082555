-- A change of one schema looks past a keyword: it leaves what is there, and does the same whatever that is.
use Rattle.std.proofs.Common.{◌≡◌, Bool, true, false, List, [], ◌∷◌, Option, Some, None, codes, refl, sym, ap, ◌∙◌}
use Rattle.schemars_transform.proofs.Words.{bytes_eq-Decides, ◌==◌, if◌then◌else◌, bytes_eq, Data, null, boolean, array, object, no_items, item, Members, no_members, member, put, members_len, get, get_member, is_listed, Text, members_in, inserted, without, removed, replaced, with_last, SchemasByName, place_under, get_member-put_other, differ, get_member-replaced_other, get_member-without, referring, reference_moved, without_siblings, first_as_example, with_single_example, value_as_enum, const_as_enum, old_items_moved, prefix_moved, prefix_as_items, nulls_in, type_without_null, null_taken_out, null_alone, null_among, nullable_by, with_nullable, Names, names_under, property_names, with_names, object_with_names, properties_made, properties_named, with_properties, closed_by, unevaluated_as_additional}
use Rattle.schemars_transform.specs.declared.built_in.nullable.AddNullable.{AddNullable}
use Rattle.schemars_transform.specs.declared.built_in.nullable.Nulls.{Nulls}
use Rattle.schemars_transform.specs.declared.built_in.nullable.Nulls.TheVariants.{Missing, Alone, Among}
use Rattle.schemars_transform.proofs.Replaced.{turned, len-replaced, without-replaced, replaced-replaced, put-replaced, property_names-replaced}

-- the keywords that transforms read or write
abbrev looked_at : List Text
looked_at = codes "$ref" ∷ codes "allOf" ∷ codes "examples" ∷ codes "example" ∷ codes "const" ∷ codes "enum" ∷ codes "prefixItems"
    ∷ codes "items" ∷ codes "additionalItems" ∷ codes "type" ∷ codes "nullable" ∷ codes "unevaluatedProperties"
    ∷ codes "additionalProperties" ∷ codes "properties" ∷ []

-- a keyword with schemas by name that transforms look past
pub record IsApart (q : Text) : Type 0 where
  pub other : (k : Text) → is_listed k looked_at ≡ true → bytes_eq k q ≡ false
  pub quiet : (d : Data) (n : Names) → names_under q d n ≡ []
  pub place : place_under q ≡ SchemasByName

others : (q : Text) → is_listed q looked_at ≡ false → (k : Text) → is_listed k looked_at ≡ true → bytes_eq k q ≡ false
others q out k among = go (bytes_eq k q) refl
  where
    go : (b : Bool) → bytes_eq k q ≡ b → b ≡ false
    go true at = sym among ∙ (ap (λ l. is_listed l looked_at) ((bytes_eq-Decides k q).0 at) ∙ out)
    go false at = refl

pub defs_apart : IsApart (codes "$defs")
defs_apart = record { other = others (codes "$defs") refl; quiet = λ d n. refl; place = refl }

pub definitions_apart : IsApart (codes "definitions")
definitions_apart = record { other = others (codes "definitions") refl; quiet = λ d n. refl; place = refl }

-- what a change makes of an object, whatever is at q, which stays there
pub record Turns (q : Text) (f : Data → Data) (ms : Members) : Type 0 where
  pub members : Members
  pub here : f (object ms) ≡ object members
  pub there : (x : Data) → f (object (replaced q x ms)) ≡ object (replaced q x members)
  pub kept : get_member q members ≡ get_member q ms

module _ (q : Text) (h : IsApart q) where
  -- ---- single steps

  pub same : (ms : Members) → Turns q (λ s. s) ms
  same ms = record { members = ms; here = refl; there = λ x. refl; kept = refl }

  after : (f g : Data → Data) (ms : Members) → Turns q f ms → ((ns : Members) → Turns q g ns) → Turns q (λ s. g (f s)) ms
  after f g ms a b =
      let c = b a.members in
      record {
        members = c.members;
        here = ap g a.here ∙ c.here;
        there = λ x. ap g (a.there x) ∙ c.there x;
        kept = c.kept ∙ a.kept;
      }

  putting : (k : Text) → is_listed k looked_at ≡ true → (d : Data) (ms : Members) → Turns q (inserted k d) ms
  putting k is d ms = record {
    members = put k d ms;
    here = refl;
    there = λ x. ap object (put-replaced k q (h.other k is) x d ms);
    kept = get_member-put_other q k d ms (differ q k (turned k q (h.other k is)));
  }

  removing : (k : Text) → is_listed k looked_at ≡ true → (ms : Members) → Turns q (removed k) ms
  removing k is ms = record {
    members = without k ms;
    here = refl;
    there = λ x. ap object (without-replaced k q (h.other k is) x ms);
    kept = get_member-without q k ms (turned k q (h.other k is));
  }

  writing : (k : Text) → is_listed k looked_at ≡ true → (y : Data) (ms : Members)
      → Turns q (λ s. object (replaced k y (members_in s))) ms
  writing k is y ms = record {
    members = replaced k y ms;
    here = refl;
    there = λ x. ap object (replaced-replaced k q (h.other k is) x y ms);
    kept = get_member-replaced_other q k y ms (turned k q (h.other k is));
  }

  got : (k : Text) → is_listed k looked_at ≡ true → (g : Option Data → Data → Data) (ms : Members)
      → ((o : Option Data) → Turns q (g o) ms) → Turns q (λ s. g (get k s) s) ms
  got k is g ms b =
      let c = b (get_member k ms) in
      record {
        members = c.members;
        here = c.here;
        there = λ x. ap (λ o. g o (object (replaced q x ms))) (get_member-replaced_other k q x ms (h.other k is)) ∙ c.there x;
        kept = c.kept;
      }

  taken : (k : Text) → is_listed k looked_at ≡ true → (g : Option Data → Data → Data) (ms : Members)
      → ((o : Option Data) (ns : Members) → Turns q (g o) ns) → Turns q (λ s. g (get k s) (removed k s)) ms
  taken k is g ms b = got k is (λ o s. g o (removed k s)) ms (λ o. after (removed k) (g o) ms (removing k is ms) (b o))

  -- ---- the changes of transforms

  pub const_turns : (ms : Members) → Turns q const_as_enum ms
  const_turns ms = taken (codes "const") refl value_as_enum ms go
    where
      go : (o : Option Data) (ns : Members) → Turns q (value_as_enum o) ns
      go None ns = same ns
      go (Some c) ns = putting (codes "enum") refl (array (item c no_items)) ns

  pub example_turns : (ms : Members) → Turns q with_single_example ms
  example_turns ms = taken (codes "examples") refl first_as_example ms go
    where
      go : (o : Option Data) (ns : Members) → Turns q (first_as_example o) ns
      go (Some (array (item d ds))) ns = putting (codes "example") refl d ns
      go _ ns = same ns

  pub prefix_turns : (ms : Members) → Turns q prefix_as_items ms
  prefix_turns ms = taken (codes "prefixItems") refl prefix_moved ms go
    where
      old : (o : Option Data) (ns : Members) → Turns q (old_items_moved o) ns
      old None ns = same ns
      old (Some i) ns = putting (codes "additionalItems") refl i ns

      go : (o : Option Data) (ns : Members) → Turns q (prefix_moved o) ns
      go None ns = same ns
      go (Some p) ns =
          got (codes "items") refl (λ o s. old_items_moved o (inserted (codes "items") p s)) ns
          (λ o. after (inserted (codes "items") p) (old_items_moved o) ns (putting (codes "items") refl p ns) (old o))

  moved_turns : (r : Data) (ms : Members) → Turns q (reference_moved (Some r)) ms
  moved_turns r ms = go (get_member (codes "allOf") ms) refl
    where
      found : (x : Data) → get_member (codes "allOf") (replaced q x ms) ≡ get_member (codes "allOf") ms
      found x = get_member-replaced_other (codes "allOf") q x ms (h.other (codes "allOf") refl)

      by : Option Data → Members → Data
      by o ns = object (elim o [
        | None ↦ put (codes "allOf") (with_last (referring r) (array no_items)) ns
        | Some e ↦ replaced (codes "allOf") (with_last (referring r) e) ns
      ])

      go : (o : Option Data) → get_member (codes "allOf") ms ≡ o → Turns q (reference_moved (Some r)) ms
      go None is =
          let d : Data = with_last (referring r) (array no_items) in
          record {
            members = put (codes "allOf") d ms;
            here = ap (λ o. by o ms) is;
            there = λ x. ap (λ o. by o (replaced q x ms)) (found x ∙ is)
                ∙ ap object (put-replaced (codes "allOf") q (h.other (codes "allOf") refl) x d ms);
            kept = get_member-put_other q (codes "allOf") d ms (differ q (codes "allOf") (turned (codes "allOf") q (h.other (codes "allOf") refl)));
          }
      go (Some e) is =
          let d : Data = with_last (referring r) e in
          record {
            members = replaced (codes "allOf") d ms;
            here = ap (λ o. by o ms) is;
            there = λ x. ap (λ o. by o (replaced q x ms)) (found x ∙ is)
                ∙ ap object (replaced-replaced (codes "allOf") q (h.other (codes "allOf") refl) x d ms);
            kept = get_member-replaced_other q (codes "allOf") d ms (turned (codes "allOf") q (h.other (codes "allOf") refl));
          }

  pub reference_turns : (ms : Members) → Turns q without_siblings ms
  reference_turns ms = go (members_len ms == 1) refl
    where
      moved : (o : Option Data) (ns : Members) → Turns q (reference_moved o) ns
      moved None ns = same ns
      moved (Some r) ns = moved_turns r ns

      by : Bool → Data → Data
      by b s = if b then s else reference_moved (get (codes "$ref") s) (removed (codes "$ref") s)

      many : (x : Data) → (members_len (replaced q x ms) == 1) ≡ (members_len ms == 1)
      many x = ap (λ n. n == 1) (len-replaced q x ms)

      go : (b : Bool) → (members_len ms == 1) ≡ b → Turns q without_siblings ms
      go true one = record {
        members = ms;
        here = ap (λ b. by b (object ms)) one;
        there = λ x. ap (λ b. by b (object (replaced q x ms))) (many x ∙ one);
        kept = refl;
      }
      go false more =
          let c = taken (codes "$ref") refl reference_moved ms moved in
          record {
            members = c.members;
            here = ap (λ b. by b (object ms)) more ∙ c.here;
            there = λ x. ap (λ b. by b (object (replaced q x ms))) (many x ∙ more) ∙ c.there x;
            kept = c.kept;
          }

  pub null_turns : (t : AddNullable) (ms : Members) → Turns q (with_nullable t) ms
  null_turns t ms = got (codes "type") refl (λ o s. nullable_by t (nulls_in o) s) ms (λ o. go (nulls_in o))
    where
      alone : (add remove : Bool) (ns : Members)
          → Turns q (λ s. if add then if remove then removed (codes "type") (inserted (codes "const") null s) else inserted (codes
          "const") null s else if remove then inserted (codes "type") (array no_items) s else s) ns
      alone true true ns =
          after (inserted (codes "const") null) (removed (codes "type")) ns (putting (codes "const") refl null ns)
          (removing (codes "type") refl)
      alone true false ns = putting (codes "const") refl null ns
      alone false true ns = putting (codes "type") refl (array no_items) ns
      alone false false ns = same ns

      out : (o : Option Data) (ns : Members) → Turns q (null_taken_out o) ns
      out None ns = same ns
      out (Some y) ns = writing (codes "type") refl (type_without_null y) ns

      among : (remove : Bool) (ns : Members) → Turns q (λ s. if remove then null_taken_out (get (codes "type") s) s else s) ns
      among true ns = got (codes "type") refl null_taken_out ns (λ o. out o ns)
      among false ns = same ns

      go : (n : Nulls) → Turns q (nullable_by t n) ms
      go Missing = same ms
      go Alone =
          after (inserted (codes "nullable") (boolean true)) (null_alone t) ms (putting (codes "nullable") refl (boolean true) ms)
          (alone t.add_const_null t.remove_null_type)
      go Among =
          after (inserted (codes "nullable") (boolean true)) (null_among t) ms (putting (codes "nullable") refl (boolean true) ms)
          (among t.remove_null_type)

  properties_turns : (ms : Members) → Turns q with_properties ms
  properties_turns ms =
      got (codes "properties") refl
      (λ o s. properties_named (property_names (removed (codes "properties") s)) o (removed (codes "properties") s)) ms
      (λ o. after (removed (codes "properties")) (λ s. properties_named (property_names s) o s) ms (removing (codes "properties") refl
      ms) (named o))
    where
      made : (new ns : Members) → Turns q (properties_made new) ns
      made no_members ns = same ns
      made (member k d new) ns = putting (codes "properties") refl (object (member k d new)) ns

      by_names : (ks : List Text) (o : Option Data) (ns : Members) → Turns q (properties_named ks o) ns
      by_names ks None ns = made (with_names ks no_members) ns
      by_names ks (Some p) ns = putting (codes "properties") refl (object_with_names ks p) ns

      named : (o : Option Data) (ns : Members) → Turns q (λ s. properties_named (property_names s) o s) ns
      named o ns =
          let c = by_names (property_names (object ns)) o ns in
          record {
            members = c.members;
            here = c.here;
            there = λ x. ap (λ ks. properties_named ks o (object (replaced q x ns))) (property_names-replaced q x h.quiet ns) ∙ c.there x;
            kept = c.kept;
          }

  pub unevaluated_turns : (ms : Members) → Turns q unevaluated_as_additional ms
  unevaluated_turns ms = taken (codes "unevaluatedProperties") refl closed_by ms go
    where
      go : (o : Option Data) (ns : Members) → Turns q (closed_by o) ns
      go None ns = same ns
      go (Some rest) ns =
          after (inserted (codes "additionalProperties") rest) with_properties ns (putting (codes "additionalProperties") refl rest ns)
          properties_turns
