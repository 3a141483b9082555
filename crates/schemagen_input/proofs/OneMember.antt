-- What the members of an object say with one member more, of which the last one of a name counts.
use Rattle.std.proofs.Common.{◌≡◌, ◌≢◌, List, Bool, true, false, ◌&&◌, Option, Some, option_and_then, cond, refl, ap, ◌∙◌, sym, true≢false}
use Rattle.schemagen_input.proofs.Words.{option_map_or, bytes_eq, bytes_eq-Decides, Data, Members, object, put, get, get_member-put, get_member-put_other, Text, is_listed, has_only, are_listed-put, needed_member, optional_member}

pub other_name : (k l : Text) → bytes_eq k l ≡ false → l ≢ k
other_name k l other = λ is. true≢false (sym ((bytes_eq-Decides k l).1 (sym is)) ∙ other)

-- the member of a name is the new one, if that has the name
got : (name k : Text) (d : Data) (ms : Members) → get name (object (put k d ms)) ≡ cond (bytes_eq k name) (Some d) (get name (object ms))
got name k d ms = by (bytes_eq k name) refl
  where
    by : (b : Bool) → bytes_eq k name ≡ b → get name (object (put k d ms)) ≡ cond b (Some d) (get name (object ms))
    by true same =
        ap (λ (l : Text). get l (object (put k d ms))) (sym ((bytes_eq-Decides k name).0 same)) ∙ get_member-put k d ms
    by false other = get_member-put_other name k d ms (other_name k name other)

-- what a part says: the new member where it has the part's name
abbrev pub Follows : {T : Type 0} → Text → (Data → Option T) → Text → Data → Option T → Option T → Type 0
Follows name says k d old new = new ≡ cond (bytes_eq k name) (says d) old

pub stays : {T : Type 0} (name : Text) (says : Data → Option T) (k : Text) (d : Data) (old : Option T) → bytes_eq k name ≡ false
    → Follows name says k d old old
stays name says k d old other = sym (ap (λ b. cond b (says d) old) other)

module _ {T : Type 0} (says : Data → Option T) (name k : Text) (d : Data) (ms : Members) (old new : Option T) where
  pub needed_follows : old ≡ needed_member says name (object ms) → Follows name says k d old new
      → new ≡ needed_member says name (object (put k d ms))
  needed_follows is follows = by (bytes_eq k name) follows (got name k d ms)
    where
      by : (b : Bool) → new ≡ cond b (says d) old → get name (object (put k d ms)) ≡ cond b (Some d) (get name (object ms))
          → new ≡ needed_member says name (object (put k d ms))
      by true new_is there = new_is ∙ ap (option_and_then says) (sym there)
      by false new_is there = new_is ∙ is ∙ ap (option_and_then says) (sym there)

  pub optional_follows : (missing : T) → old ≡ optional_member missing says name (object ms) → Follows name says k d old new
      → new ≡ optional_member missing says name (object (put k d ms))
  optional_follows missing is follows = by (bytes_eq k name) follows (got name k d ms)
    where
      by : (b : Bool) → new ≡ cond b (says d) old → get name (object (put k d ms)) ≡ cond b (Some d) (get name (object ms))
          → new ≡ optional_member missing says name (object (put k d ms))
      by true new_is there = new_is ∙ ap (λ o. option_map_or says o (Some missing)) (sym there)
      by false new_is there = new_is ∙ is ∙ ap (λ o. option_map_or says o (Some missing)) (sym there)

pub only_follows : (names : List Text) (k : Text) (d : Data) (ms : Members) (old new : Bool) → old ≡ has_only names (object ms)
    → new ≡ is_listed k names && old → new ≡ has_only names (object (put k d ms))
only_follows names k d ms old new is follows = follows ∙ ap (λ b. is_listed k names && b) is ∙ sym (are_listed-put names k d ms)
