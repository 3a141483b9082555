-- What is rewritten by how far inside it lies is what opening makes of it.
use Rattle.std.proofs.Common.{◌≡◌, refl, ap}
use Rattle.schemars_flatten.proofs.Words.{Data, boolean, array, object, Items, no_items, item, Members, no_members, member, Forms, rewritten, forms, in_items, in_names, in_keywords, opening, level_inside, opening_by_level, opened, opened_inside}
use Rattle.schemars_flatten.specs.declared.part.opening.Level.{Level}
use Rattle.schemars_flatten.specs.declared.part.opening.Level.TheVariants.{Around, Top, Below}

mutual
  unfolding forms in_items in_names in_keywords

  inside_forms : (d : Data) (level : Level) → level_inside level ≡ Below
      → forms opening_by_level level d ≡ forms opening tt d
  inside_forms (boolean b) level h = rw h refl
  inside_forms (array ds) level h = rw (inside_items ds level h) refl
  inside_forms (object ms) level h = rw (h, inside_keywords ms Below refl, inside_names ms level h) refl
  inside_forms _ level h = refl

  inside_items : (ds : Items) (level : Level) → level_inside level ≡ Below
      → in_items opening_by_level level ds ≡ in_items opening tt ds
  inside_items no_items level h = refl
  inside_items (item d ds) level h = rw (inside_forms d level h, inside_items ds level h) refl

  inside_names : (ms : Members) (level : Level) → level_inside level ≡ Below
      → in_names opening_by_level level ms ≡ in_names opening tt ms
  inside_names no_members level h = refl
  inside_names (member k d ms) level h = rw (inside_forms d level h, inside_names ms level h) refl

  inside_keywords : (ms : Members) (level : Level) → level_inside level ≡ Below
      → in_keywords opening_by_level level ms ≡ in_keywords opening tt ms
  inside_keywords no_members level h = refl
  inside_keywords (member k d ms) level h = rw (inside_forms d level h, inside_keywords ms level h) refl

pub below_opened : (d : Data) → rewritten opening_by_level Below d ≡ opened d
below_opened d = ap (λ (e : Forms). e.as_schema) (inside_forms d Below refl)

-- the schema at the top keeps its own keywords
pub around_opened : (d : Data) → rewritten opening_by_level Around d ≡ opened_inside d
unfolding forms
around_opened (object ms) = ap object (inside_keywords ms Top refl)
around_opened _ = refl
