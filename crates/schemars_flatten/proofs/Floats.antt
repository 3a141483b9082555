-- No float comes into what is made of schemas without one.
use Rattle.std.proofs.Common.{◌≡◌, Bool, false, refl}
use Rattle.schemars_flatten.proofs.Words.{or_parts, Data, Items, no_items, item, Members, no_members, member, has_float, items_have_float, members_have_float, Text, put_members, appended, flattened, opened_inside, flattened_part}
use Rattle.schemars_flatten.proofs.Kept.{AllMembers, AllItems, IsByKeyword, all_put_members, flattened_kept, part_kept, opened_inside_kept}

abbrev IsWhole : Data → Type 0
IsWhole d = has_float d ≡ false

abbrev IsWholeAt : Text → Data → Type 0
IsWholeAt k d = IsWhole d

parts : (ms : Members) → members_have_float ms ≡ false → AllMembers IsWholeAt ms
parts no_members h = tt
parts (member k d ms) h =
    let each = or_parts (has_float d) (members_have_float ms) h in (each.0, parts ms each.1)

whole : (ms : Members) → AllMembers IsWholeAt ms → members_have_float ms ≡ false
whole no_members h = refl
whole (member k d ms) h = rw (h.0, whole ms h.1)

items : (ds : Items) → items_have_float ds ≡ false → AllItems IsWhole ds
items no_items h = tt
items (item d ds) h = let each = or_parts (has_float d) (items_have_float ds) h in (each.0, items ds each.1)

list : (ds : Items) → AllItems IsWhole ds → items_have_float ds ≡ false
list no_items h = refl
list (item d ds) h = rw (h.0, list ds h.1)

both : (ds es : Items) → items_have_float ds ≡ false → items_have_float es ≡ false
    → items_have_float (appended ds es) ≡ false
both no_items es first second = second
both (item d ds) es first second =
    let each = or_parts (has_float d) (items_have_float ds) first in rw (each.0, both ds es each.1 second)

merged : (ms ns : Members) → members_have_float ms ≡ false → members_have_float ns ≡ false
    → members_have_float (put_members ns ms) ≡ false
merged ms ns first second =
    whole (put_members ns ms) (all_put_members IsWholeAt ns ms (parts ns second) (parts ms first))

by_keyword : IsByKeyword IsWhole IsWholeAt
by_keyword = record {
  truth = λ b. refl;
  parts = parts;
  whole = whole;
  schema = λ k d is h. h;
  under = λ k d is h. h;
  items = λ k ds is h. items ds h;
  list = λ k ds is h. list ds h;
  nothing = refl;
  additional = refl;
  unevaluated = refl;
  renamed = λ d h. h;
  required = both;
  properties = merged;
  by_pattern = merged;
  unit = λ name. refl;
}

pub flattened-whole : (s o : Data) → has_float s ≡ false → has_float o ≡ false → has_float (flattened s o) ≡ false
flattened-whole s o first second = flattened_kept IsWhole IsWholeAt by_keyword s o first second

pub flattened_part-whole : (b : Bool) (s : Data) → has_float s ≡ false → has_float (flattened_part b s) ≡ false
flattened_part-whole b s h = part_kept IsWhole IsWholeAt by_keyword b s h

pub opened_inside-whole : (s : Data) → has_float s ≡ false → has_float (opened_inside s) ≡ false
opened_inside-whole s h = opened_inside_kept IsWhole IsWholeAt by_keyword s h
