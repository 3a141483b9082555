-- The JSON of the example that a JSON value is, is that value.
use Rattle.std.proofs.Common.{◌≡◌, List, [], ◌∷◌, Option, Some, None, Greater, nat_cmp, pos, negsuc, refl, ap, ◌∙◌, subst, arith}
use Rattle.schemagen_input.proofs.Words.{IfSome, le-leb, cond_both, nat_list_cmp_total, ◌^◌, ◌-◌, ◌&&◌, option_map, two_to, minus_two_to, lt, ordering_reverse, slice_cmp, Data, null, boolean, number, unsigned, negative, float, string, array, object, Items, no_items, item, Members, no_members, member, put, items_of, Text, IsAbove, put_members, Example, decimal, Examples, example, Entries, entry, sample_json, items_json, entries_json, sample_input, items_input, members_input, IsAsRead, AreAsRead, AreMembersAsRead, if_mapped, if_next}
use Rattle.schemars_sample.specs.Example.{seq, struct}

-- a member before all that are put in stays the first
put_members-first : (k : Text) (d : Data) (new ms : Members) → IsAbove k new
    → put_members new (member k d ms) ≡ member k d (put_members new ms)
put_members-first k d no_members ms above = refl
put_members-first k d (member l e new) ms above =
    let after : slice_cmp nat_cmp l k ≡ Greater = nat_list_cmp_total.antisymm l k ∙ ap ordering_reverse above.0 in
    rw after (put_members-first k d new (put l e ms) above.1)

-- members whose keys stand in order stay as they are
put_members-none : (ms : Members) → AreMembersAsRead ms → put_members ms no_members ≡ ms
put_members-none no_members h = refl
put_members-none (member k d ms) h = put_members-first k d ms no_members h.1 ∙ ap (member k d) (put_members-none ms h.2)

-- the examples of these items have these items for JSON
abbrev AreItems : Items → Examples → Type 0
AreItems ds xs = (js : List Data) × (items_json xs ≡ Some js) × (items_of js ≡ ds)

-- the entries of these members put them in
abbrev AreEntries : Members → Entries → Type 0
AreEntries ms xs = (done : Members) → entries_json xs done ≡ Some (put_members ms done)

-- where a value that is read is an example, the JSON of the example is the value
mutual
  the_example : (d : Data) → IsAsRead d → IfSome (sample_input d) (λ x. sample_json x ≡ Some d)
  the_example null h = refl
  the_example (boolean b) h = refl
  the_example (number (unsigned n)) h = rw (le-leb n (2 ^ 64 - 1) (omega arith)) refl
  the_example (number (negative (pos n))) h = absurd h
  the_example (number (negative (negsuc n))) h = rw (le-leb n (2 ^ 63 - 1) (omega arith)) refl
  the_example (number (float x)) h = cond_both (lt (minus_two_to 63) x && lt x (two_to 64)) (Some (decimal x)) None
      (λ o. IfSome o (λ y. sample_json y ≡ Some (number (float x)))) (λ _. rw h refl) (λ _. tt)
  the_example (string s) h = refl
  the_example (array ds) h = if_mapped (AreItems ds) (λ x. sample_json x ≡ Some (array ds)) seq (items_input ds)
      (λ xs is. rw (is.1, is.2) refl) (the_examples ds h)
  the_example (object ms) h = if_mapped (AreEntries ms) (λ x. sample_json x ≡ Some (object ms)) (struct []) (members_input ms)
      (λ xs is. rw (is no_members, put_members-none ms h) refl) (the_entries ms h)

  the_examples : (ds : Items) → AreAsRead ds → IfSome (items_input ds) (AreItems ds)
  the_examples no_items h = ([], refl, refl)
  the_examples (item d ds) h = if_next (λ x. sample_json x ≡ Some d) (AreItems (item d ds))
      (λ x. option_map (example x) (items_input ds)) (sample_input d)
      (λ x is. if_mapped (AreItems ds) (AreItems (item d ds)) (example x) (items_input ds)
      (λ xs are. (d ∷ are.0, rw (is, are.1) refl, ap (item d) are.2)) (the_examples ds h.1)) (the_example d h.0)

  the_entries : (ms : Members) → AreMembersAsRead ms → IfSome (members_input ms) (AreEntries ms)
  the_entries no_members h = λ done. refl
  the_entries (member k d ms) h = if_next (λ x. sample_json x ≡ Some d) (AreEntries (member k d ms))
      (λ x. option_map (entry k x) (members_input ms)) (sample_input d)
      (λ x is. if_mapped (AreEntries ms) (AreEntries (member k d ms)) (entry k x) (members_input ms)
      (λ xs are done. rw is (are (put k d done))) (the_entries ms h.2)) (the_example d h.0)

some_is : (o : Option Example) (x : Example) (d : Data) → o ≡ Some x → IfSome o (λ y. sample_json y ≡ Some d) → sample_json x ≡ Some d
some_is None x d is h = cc
some_is (Some y) x d is h = let same : y ≡ x = cc in subst (λ z. sample_json z ≡ Some d) same h

pub json_of_input : (d : Data) (x : Example) → IsAsRead d → sample_input d ≡ Some x → sample_json x ≡ Some d
json_of_input d x h is = some_is (sample_input d) x d is (the_example d h)
