-- A transform is idle at a value: it leaves every schema inside as it is. That holds where nothing is needed that it looks for.
use Rattle.std.proofs.Common.{◌≡◌, ◌⊎◌, inl, inr, Bool, true, refl, ap, ◌∙◌}
use Rattle.schemars_transform.proofs.Words.{◌==◌, ⊤, Data, boolean, array, object, Items, no_items, item, Members, no_members, member, members_len, Text, Place, NoSchemas, OneSchema, SchemaList, SchemaOrList, SchemasByName, Rules, rewritten, form_at, forms, in_items, in_names, in_keywords, keyword_named, is_changed, with_keyword, place_asked, needed_at, needs_of, needed, needed_by_items, needed_by_names, needed_by_keywords}
use Rattle.schemars_transform.specs.declared.needs.Needs.{Needs}

-- of each keyword of an object
abbrev pub AllKeywords : (Text → Data → Type 0) → Members → Type 0
AllKeywords P no_members = ⊤
AllKeywords P (member k d ms) = P k d × AllKeywords P ms

-- what is needed with one keyword
abbrev pub keyword_needs : Bool → Text → Data → Needs → Needs
keyword_needs alone k d n = with_keyword (keyword_named k) (is_changed (keyword_named k) alone d) n

-- What is to be shown of a rewrite: Without is what it asks of the needs, and Ignores what follows of each keyword.
pub record Idles {R : Type 0} (ρ : Rules R) (r : R) (Without : Needs → Type 0) (Ignores : Bool → Text → Data → Type 0) : Type 0 where
  pub inside : (d : Data) → ρ.inside r d ≡ r
  pub place : (alone : Bool) (k : Text) (d : Data) → Ignores alone k d
      → (ρ.place r k d ≡ place_asked k d) ⊎ (form_at (ρ.place r k d) d (forms ρ r d) ≡ d)
  pub keyword : (alone : Bool) (k : Text) (d : Data) (n : Needs) → Without (keyword_needs alone k d n) → Without n × Ignores alone k d
  pub of_truth : (b : Bool) (n : Needs) → Without (record n { truth_value = true }) → Without n × (ρ.finish r (boolean b) ≡ boolean b)
  pub of_object : (ms : Members) → AllKeywords (Ignores (members_len ms == 1)) ms → ρ.finish r (object ms) ≡ object ms

module _ {R : Type 0} (ρ : Rules R) (r : R) (Without : Needs → Type 0) (Ignores : Bool → Text → Data → Type 0)
    (h : Idles ρ r Without Ignores) where
  truth : (b : Bool) (n : Needs) → Without (record n { truth_value = true })
      → Without n × (ρ.finish (ρ.inside r (boolean b)) (boolean b) ≡ boolean b)
  truth b n w = let t = h.of_truth b n w in (t.0, ap (λ x. ρ.finish x (boolean b)) (h.inside (boolean b)) ∙ t.1)

  finished : (ms : Members) (x : R) → x ≡ r → in_keywords ρ r ms ≡ ms → AllKeywords (Ignores (members_len ms == 1)) ms
      → ρ.finish x (object (in_keywords ρ x ms)) ≡ object ms
  finished ms x is same each =
      ap (λ y. ρ.finish y (object (in_keywords ρ y ms))) is ∙ ap (λ ns. ρ.finish r (object ns)) same ∙ h.of_object ms each

  at_place : (p : Place) (d : Data) (n : Needs)
      → (Without (needed d n).as_schema → Without n × ((forms ρ r d).as_schema ≡ d))
      → (Without (needed d n).as_list → Without n × ((forms ρ r d).as_list ≡ d))
      → (Without (needed d n).as_either → Without n × ((forms ρ r d).as_either ≡ d))
      → (Without (needed d n).by_name → Without n × ((forms ρ r d).by_name ≡ d))
      → Without (needed_at p n (needed d n)) → Without n × (form_at p d (forms ρ r d) ≡ d)
  at_place NoSchemas d n one list either names w = (w, refl)
  at_place OneSchema d n one list either names w = one w
  at_place SchemaList d n one list either names w = list w
  at_place SchemaOrList d n one list either names w = either w
  at_place SchemasByName d n one list either names w = names w

  at_keyword : (alone : Bool) (k : Text) (d : Data) → Ignores alone k d → form_at (place_asked k d) d (forms ρ r d) ≡ d
      → form_at (ρ.place r k d) d (forms ρ r d) ≡ d
  at_keyword alone k d ignores same = go (h.place alone k d ignores)
    where
      go : (ρ.place r k d ≡ place_asked k d) ⊎ (form_at (ρ.place r k d) d (forms ρ r d) ≡ d)
          → form_at (ρ.place r k d) d (forms ρ r d) ≡ d
      go (inl e) = ap (λ p. form_at p d (forms ρ r d)) e ∙ same
      go (inr e) = e

  mutual
    unfolding forms in_items in_names in_keywords needed needed_by_items needed_by_names needed_by_keywords

    one : (d : Data) (n : Needs) → Without (needed d n).as_schema → Without n × ((forms ρ r d).as_schema ≡ d)
    one (boolean b) n w = truth b n w
    one (object ms) n w =
        let k = keywords (members_len ms == 1) ms n w in
        (k.0, finished ms (ρ.inside r (object ms)) (h.inside (object ms)) k.1 k.2)
    one _ n w = (w, refl)

    list : (d : Data) (n : Needs) → Without (needed d n).as_list → Without n × ((forms ρ r d).as_list ≡ d)
    list (array ds) n w = let i = items ds n w in (i.0, ap array i.1)
    list _ n w = (w, refl)

    either : (d : Data) (n : Needs) → Without (needed d n).as_either → Without n × ((forms ρ r d).as_either ≡ d)
    either (boolean b) n w = truth b n w
    either (array ds) n w = let i = items ds n w in (i.0, ap array i.1)
    either (object ms) n w =
        let k = keywords (members_len ms == 1) ms n w in
        (k.0, finished ms (ρ.inside r (object ms)) (h.inside (object ms)) k.1 k.2)
    either _ n w = (w, refl)

    named : (d : Data) (n : Needs) → Without (needed d n).by_name → Without n × ((forms ρ r d).by_name ≡ d)
    named (object ms) n w = let i = names ms n w in (i.0, ap object i.1)
    named _ n w = (w, refl)

    items : (ds : Items) (n : Needs) → Without (needed_by_items ds n) → Without n × (in_items ρ r ds ≡ ds)
    items no_items n w = (w, refl)
    items (item d ds) n w =
        let rest = items ds (needed d n).as_schema w in
        let here = one d n rest.0 in
        (here.0, ap (λ e. item e (in_items ρ r ds)) here.1 ∙ ap (item d) rest.1)

    names : (ms : Members) (n : Needs) → Without (needed_by_names ms n) → Without n × (in_names ρ r ms ≡ ms)
    names no_members n w = (w, refl)
    names (member k d ms) n w =
        let rest = names ms (needed d n).as_schema w in
        let here = one d n rest.0 in
        (here.0, ap (λ e. member k e (in_names ρ r ms)) here.1 ∙ ap (member k d) rest.1)

    keywords : (alone : Bool) (ms : Members) (n : Needs) → Without (needed_by_keywords alone ms n)
        → Without n × (in_keywords ρ r ms ≡ ms) × AllKeywords (Ignores alone) ms
    keywords alone no_members n w = (w, refl, tt)
    keywords alone (member k d ms) n w =
        let m : Needs = keyword_needs alone k d n in
        let rest = keywords alone ms (needed_at (place_asked k d) m (needed d m)) w in
        let here = at_place (place_asked k d) d m (one d m) (list d m) (either d m) (named d m) rest.0 in
        let own = h.keyword alone k d n here.0 in (
          own.0,
          ap (λ e. member k e (in_keywords ρ r ms)) (at_keyword alone k d own.1 here.1) ∙ ap (member k d) rest.1,
          (own.1, rest.2),
        )

  pub idle : (s : Data) → Without (needs_of s) → rewritten ρ r s ≡ s
  idle s w = (one s _ w).1
