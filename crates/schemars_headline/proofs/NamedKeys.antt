-- Each reference in a definition names a key.
use Rattle.std.proofs.Common.{◌≡◌, ◌⊎◌, inl, inr, ℕ, Bool, true, false, None, true≢false, refl, sym, ap}
use Rattle.schemars_headline.proofs.Words.{◌||◌, bytes_eq, option_map_or, bytes_eq-Decides, Data, string, Members, no_members, member, Text, references, HasPlainNotesThroughout, IsKey, Refers, reference_to, basis_of_plan, State, state_plan, registry_of, HasOwnDefinitions, document_describes, as_str, ReferencesNameKeys}
use Rattle.schemars_headline.proofs.Keys.{key_here, key_later, key_cases}
use Rattle.schemars_headline.proofs.Resolving.{resolve-each, described_resolved}

-- whether this is the reference of one of these keys
names_key : Text → Members → Data → Bool
names_key path no_members r = false
names_key path (member k d ms) r = option_map_or (bytes_eq (reference_to path k)) (as_str r) false || names_key path ms r

or_cases : (a b : Bool) → a || b ≡ true → (a ≡ true) ⊎ (b ≡ true)
or_cases true b h = inl refl
or_cases false b h = inr h

or_later : (a b : Bool) → b ≡ true → a || b ≡ true
or_later true b h = refl
or_later false b h = h

names_a_key : (path : Text) (ms : Members) (k : Text) → IsKey k ms → names_key path ms (string (reference_to path k)) ≡ true
unfolding names_key
names_a_key path no_members k h = cc (h.1)
names_a_key path (member l d ms) k h = elim (key_cases k l d ms h) [
  | inl same ↦
      let own : bytes_eq (reference_to path l) (reference_to path k) ≡ true =
      (bytes_eq-Decides (reference_to path l) (reference_to path k)).1 (ap (reference_to path) (sym same)) in
      rw own refl
  | inr later ↦ or_later (bytes_eq (reference_to path l) (reference_to path k)) (names_key path ms (string (reference_to path k)))
      (names_a_key path ms k later)
]

key_named : (path : Text) (ms : Members) (r : Data) → names_key path ms r ≡ true
    → (name : Text) × IsKey name ms × (r ≡ string (reference_to path name))
unfolding names_key
key_named path no_members r h = absurd (true≢false (sym h))
key_named path (member k d ms) r h = elim (or_cases (option_map_or (bytes_eq (reference_to path k)) (as_str r) false)
    (names_key path ms r) h) [
      | inl here ↦ (k, key_here k d ms, text r here)
      | inr later ↦ let rest = key_named path ms r later in (rest.0, key_later rest.0 k d ms rest.1, rest.2)
    ]
  where
    text : (x : Data) → option_map_or (bytes_eq (reference_to path k)) (as_str x) false ≡ true → x ≡ string (reference_to path k)
    text (string t) is = ap string (sym ((bytes_eq-Decides (reference_to path k) t).0 is))
    text _ is = cc

-- Each reference in a definition names a key, where the definitions are the generator's own, literals are plain, and all notes are
-- annotations alone, whatever is flattened or is beside a tag.
pub noted_name_keys : (s : State) → HasOwnDefinitions s → HasPlainNotesThroughout s.rows → ReferencesNameKeys s
noted_name_keys s own noted k d r found among =
    let definition = own k d found in
    let all = (described_resolved test (basis_of_plan (state_plan s None)) (Refers (state_plan s None) false (registry_of s)) noted leads
    definition.document.0 definition.row d (document_describes (basis_of_plan (state_plan s None)) s.settings.inlines
    (Refers (state_plan s None) false (registry_of s)) definition.pending definition.row d definition.document)).1 in
    key_named (state_plan s None).path s.definitions r (resolve-each test (references d) r all among)
  where
    test : Data → Bool
    test = names_key (state_plan s None).path s.definitions

    leads : (j : ℕ) (t : Text) → Refers (state_plan s None) false (registry_of s) j t → test (string t) ≡ true
    leads j t (inl h) = cc
    leads j t (inr h) = rw (h.3) (names_a_key (state_plan s None).path s.definitions h.0 h.2)
