-- The schemas of an enum's variants where the enum is flattened: maps that let further members in.
use Rattle.std.proofs.Common.{◌≡◌, ◌<◌, List, [], ◌∷◌, ◌++◌, map, Option, Some, None, Bool, true, false, refl, sym, ap, ◌∙◌, subst, true≢false}
use Rattle.schemars_meaning.proofs.Words.{bytes_eq-Decides, codes, bytes_eq, is_some, Data, object, string, Members, no_members, put, depth, get_member, get_member-put, get_member-put_other, Text, IsJson, IsSchema, put_all, AreNotes, verdict, Context, judge, opened, VariantMatch, member_choice, Keyword, annotated, must_have, key}
use Rattle.schemars_meaning.proofs.MapDocument.{map_document}
use Rattle.schemars_meaning.proofs.MapKeywords.{noted, noted_by-object, keywords, closed_there}
use Rattle.schemars_meaning.proofs.Named.{AreEntries}
use Rattle.schemars_meaning.proofs.MapForm.{HasKeywords}
use Rattle.schemars_meaning.proofs.Offers.{AllSay}
use Rattle.schemars_meaning.proofs.StructForm.{Part, Parts, struct_keywords, PartsSay, OneSays, ChoicesSay}
use Rattle.schemars_meaning.proofs.StructMeans.{value_means, open_judges, names_judged}
use Rattle.schemars_meaning.proofs.SmallMaps.{found_one}
use Rattle.schemars_meaning.proofs.Uniting.{IsForm, form-keywords, pair, rest, join}
use Rattle.schemars_meaning.proofs.Opened.{no_parts, map_form, opened_form, opened_part, opened_one, opened_parts, Part_form}

module _ (c : Context) (on : c.dialect.reads_unevaluated ≡ true) where
  -- a map whose properties and required names say what is offered of v
  pub record IsItem (closed : Bool) (t : Data) (o : VariantMatch) (v : Data) : Type 0 where
    pub es : List Keyword
    pub ns : List Text
    pub members : Members
    pub is : t ≡ object members
    pub form : IsForm (struct_keywords es ns no_parts closed) members
    pub are : AreEntries es
    pub says : (ms : Members) → HasKeywords (struct_keywords es ns no_parts false) ms → (judge c (object ms)).fits v ≡ verdict o.fits
    pub keys : (k : Text) → is_some (get_member k (put_all es no_members)) ≡ o.has_key k

  pub opened_item : (closed : Bool) (t : Data) (o : VariantMatch) (v : Data) → IsItem closed t o v → IsItem false (opened t) o v
  unfolding closed_there
  opened_item closed t o v i =
      let d : Part_form (Some (string (codes "object"))) i.es i.ns no_parts (opened (object i.members)) =
      opened_form (Some (string (codes "object"))) i.es i.ns no_parts closed false i.members i.form in record {
        es = i.es;
        ns = i.ns;
        members = d.members;
        is = ap opened i.is ∙ d.is;
        form = d.form;
        are = i.are;
        says = i.says;
        keys = i.keys;
      }

  abbrev pub AllItems : Bool → List Data → List VariantMatch → Data → Type 0
  AllItems closed [] [] v = Unit {0}
  AllItems closed [] (o ∷ os) v = ⊥
  AllItems closed (t ∷ ts) [] v = ⊥
  AllItems closed (t ∷ ts) (o ∷ os) v = IsItem closed t o v × AllItems closed ts os v

  pub opened_items : (closed : Bool) (ts : List Data) (os : List VariantMatch) (v : Data) → AllItems closed ts os v
      → AllItems false (map opened ts) os v
  opened_items closed [] [] v h = tt
  opened_items closed [] (o ∷ os) v h = absurd h
  opened_items closed (t ∷ ts) [] v h = absurd h
  opened_items closed (t ∷ ts) (o ∷ os) v h = (opened_item closed t o v h.0, opened_items closed ts os v h.1)

  -- some of them closed, and others not
  abbrev pub AnyItems : List Data → List VariantMatch → Data → Type 0
  AnyItems [] [] v = Unit {0}
  AnyItems [] (o ∷ os) v = ⊥
  AnyItems (t ∷ ts) [] v = ⊥
  AnyItems (t ∷ ts) (o ∷ os) v = ((closed : Bool) × IsItem closed t o v) × AnyItems ts os v

  pub opened_any : (ts : List Data) (os : List VariantMatch) (v : Data) → AnyItems ts os v → AllItems false (map opened ts) os v
  opened_any [] [] v h = tt
  opened_any [] (o ∷ os) v h = absurd h
  opened_any (t ∷ ts) [] v h = absurd h
  opened_any (t ∷ ts) (o ∷ os) v h = (opened_item h.0.0 t o v h.0.1, opened_any ts os v h.1)

  pub any_items : (closed : Bool) (ts : List Data) (os : List VariantMatch) (v : Data) → AllItems closed ts os v → AnyItems ts os v
  any_items closed [] [] v h = tt
  any_items closed [] (o ∷ os) v h = absurd h
  any_items closed (t ∷ ts) [] v h = absurd h
  any_items closed (t ∷ ts) (o ∷ os) v h = ((closed, h.0), any_items closed ts os v h.1)

  pub any_append : (ts us : List Data) (os qs : List VariantMatch) (v : Data) → AnyItems ts os v → AnyItems us qs v
      → AnyItems (ts ++ us) (os ++ qs) v
  any_append [] us [] qs v h g = g
  any_append [] us (o ∷ os) qs v h g = absurd h
  any_append (t ∷ ts) us [] qs v h g = absurd h
  any_append (t ∷ ts) us (o ∷ os) qs v h g = (h.0, any_append ts us os qs v h.1 g)

  item_says : (t : Data) (o : VariantMatch) (v : Data) → IsItem false t o v → IsSchema t × ((judge c t).fits v ≡ verdict o.fits)
      × ((k : Text) → o.fits ≡ true → (judge c t).judges v (key k) ≡ o.has_key k)
  item_says t o v i =
      let has = form-keywords (struct_keywords i.es i.ns no_parts false) i.members i.form in (
        subst IsSchema (sym i.is) tt,
        ap (λ s. (judge c s).fits v) i.is ∙ i.says i.members has,
        λ k fits. ap (λ s. (judge c s).judges v (key k)) i.is ∙ (open_judges c on i.es i.ns i.members has i.are v k ∙
            (names_judged c on i.es k ∙ i.keys k)),
      )

  pub items_say : (ts : List Data) (os : List VariantMatch) (v : Data) → AllItems false ts os v → AllSay c ts os v
  items_say [] [] v h = tt
  items_say [] (o ∷ os) v h = absurd h
  items_say (t ∷ ts) [] v h = absurd h
  items_say (t ∷ ts) (o ∷ os) v h = let s = item_says t o v h.0 in (s.0, s.1, s.2, items_say ts os v h.1)

  -- ---- parts of such items

  abbrev pub PartsAre : List Part → Data → Type 0
  PartsAre [] v = Unit {0}
  PartsAre (p ∷ ps) v = AllItems false p.items p.choices v × PartsAre ps v

  abbrev pub OneIs : Option Part → Data → Type 0
  OneIs None v = Unit {0}
  OneIs (Some p) v = AllItems false p.items p.choices v

  abbrev pub ChoicesAre : Parts → Data → Type 0
  ChoicesAre ps v = PartsAre ps.all v × OneIs ps.one v

  parts_say : (ps : List Part) (v : Data) → PartsAre ps v → PartsSay c on ps v
  parts_say [] v h = tt
  parts_say (p ∷ ps) v h = (items_say p.items p.choices v h.0, parts_say ps v h.1)

  one_says : (o : Option Part) (v : Data) → OneIs o v → OneSays c on o v
  one_says None v h = tt
  one_says (Some p) v h = items_say p.items p.choices v h

  pub choices_say : (ps : Parts) (v : Data) → ChoicesAre ps v → ChoicesSay c on ps v
  choices_say ps v h = (parts_say ps.all v h.0, one_says ps.one v h.1)

  parts_opened : (ps : List Part) (v : Data) → PartsAre ps v → PartsAre (map opened_part ps) v
  parts_opened [] v h = tt
  parts_opened (p ∷ ps) v h = (opened_items false p.items p.choices v h.0, parts_opened ps v h.1)

  one_opened : (o : Option Part) (v : Data) → OneIs o v → OneIs (opened_one o) v
  one_opened None v h = tt
  one_opened (Some p) v h = opened_items false p.items p.choices v h

  -- opening them again changes nothing of what they say
  pub choices_opened : (ps : Parts) (v : Data) → ChoicesAre ps v → ChoicesAre (opened_parts ps) v
  choices_opened ps v h = (parts_opened ps.all v h.0, one_opened ps.one v h.1)

  parts_append : (ps qs : List Part) (v : Data) → PartsAre ps v → PartsAre qs v → PartsAre (ps ++ qs) v
  parts_append [] qs v h g = g
  parts_append (p ∷ ps) qs v h g = (h.0, parts_append ps qs v h.1 g)

  pair_are : (o q : Option Part) (v : Data) → OneIs o v → OneIs q v → PartsAre (pair o q) v
  pair_are None q v h g = tt
  pair_are (Some p) None v h g = tt
  pair_are (Some p) (Some q) v h g = (h, (g, tt))

  rest_is : (o q : Option Part) (v : Data) → OneIs o v → OneIs q v → OneIs (rest o q) v
  rest_is None q v h g = g
  rest_is (Some p) None v h g = h
  rest_is (Some p) (Some q) v h g = tt

  pub choices_join : (ps qs : Parts) (v : Data) → ChoicesAre ps v → ChoicesAre qs v → ChoicesAre (join ps qs) v
  choices_join ps qs v h g = (
    parts_append (ps.all ++ qs.all) (pair ps.one qs.one) v (parts_append ps.all qs.all v h.0 g.0) (pair_are ps.one qs.one v h.1 g.1),
    rest_is ps.one qs.one v h.1 g.1,
  )

  -- ---- a map with one member that has to be there

  pub member_item : (name : Text) (p : Data → Bool) (notes : Members) (closed : Bool) (s : Data) → AreNotes notes → IsSchema s → (v : Data)
      → IsJson v → ((w : Data) → IsJson w → depth w < depth v → (judge c s).fits w ≡ verdict (p w))
      → IsItem closed (annotated notes (map_document ((name, s) ∷ []) (name ∷ []) closed)) (member_choice name p v) v
  member_item name p notes closed s plain schema v json agree =
      let es : List Keyword = (name, s) ∷ [] in
      record {
        es = es;
        ns = name ∷ [];
        members = noted (notes ∷ []) (keywords es (name ∷ []) closed);
        is = noted_by-object (notes ∷ []) (keywords es (name ∷ []) closed);
        form = map_form (notes ∷ []) es (name ∷ []) closed (plain, tt);
        are = (schema, tt);
        says = λ ms has. value_means c on (must_have name p ∷ []) es (name ∷ []) no_parts false ms has (schema, tt) v
            (found_one c on v name p s agree) (λ xs. refl) json (tt, tt);
        keys = λ k. at k (bytes_eq name k) refl;
      }
    where
      at : (k : Text) (b : Bool) → bytes_eq name k ≡ b → is_some (get_member k (put name s no_members)) ≡ b
      at k true is =
          ap (λ l. is_some (get_member l (put name s no_members))) (sym ((bytes_eq-Decides name k).0 is))
          ∙ ap is_some (get_member-put name s no_members)
      at k false is = ap is_some (get_member-put_other k name s no_members
          (λ same. true≢false (sym ((bytes_eq-Decides name k).1 (sym same)) ∙ is)))
