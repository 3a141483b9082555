-- How a reference is written, and what was found under the last keywords.
use Rattle.std.proofs.Common.{◌≡◌, List, ◌∷◌, ◌++◌, [], true, false, take, drop, map, refl, sym, ap, ◌∙◌, append_assoc}
use Rattle.schemars_parts.proofs.Words.{take-map, drop-map, codes, quoted, begin_object, end_object, key, string, Members, no_members, member, get_member, Output, with_token, with_value, with_values, Layout, PlainJson, SchemaLayout, NamedSchemas, texts, arranged, with_commas, braces, text_in, member_texts, first_keywords, last_keywords, Slot, held, object_written, assembled_view, reference_to}
use Rattle.json.specs.Token as token
use Rattle.schemars_text.specs.Text.{Text}
use Rattle.schemars_parts.specs.declared.assembled.Assembled.{Assembled}

-- ---- a reference, which is written in the same way in every layout

only_member : (layout : Layout) (target : Text)
    → texts (arranged layout (member_texts layout (member (codes "$ref") (string target) no_members)))
    ≡ (quoted (codes "$ref") ++ 58 ∷ quoted target) ∷ []
unfolding text_in member_texts
only_member PlainJson target = refl
only_member SchemaLayout target = refl
only_member NamedSchemas target = refl

pub same_reference : (l m : Layout) (target : Text) → text_in l (reference_to target) ≡ text_in m (reference_to target)
unfolding text_in
same_reference l m target = ap (λ ts. braces (with_commas false ts)) (only_member l target ∙ sym (only_member m target))

regroup : (a b c d : Text) → (a ++ (b ++ c)) ++ d ≡ a ++ (b ++ (c ++ d))
regroup a b c d = simp append_assoc

-- after the key comes the value
member_written : (o : Output) (target : Text)
    → with_token (with_token (with_token o begin_object) (key (codes "$ref"))) (token.string target)
    ≡ with_values (with_token o begin_object) ((quoted (codes "$ref") ++ 58 ∷ quoted target) ∷ [])
member_written o target = λ i. record {
  text = regroup (with_token o begin_object).text (quoted (codes "$ref")) (58 ∷ []) (quoted target) i;
  after_value = true;
}

pub lone_reference : (o a b c e : Output) (layout : Layout) (target : Text) → a ≡ with_token o begin_object
    → b ≡ with_token a (key (codes "$ref")) → c ≡ with_token b (token.string target) → e ≡ with_token c end_object
    → e ≡ with_value o (text_in layout (reference_to target))
lone_reference o a b c e layout target first named valued last =
    let members : c ≡ with_values a (texts (arranged layout (member_texts layout (member (codes "$ref") (string target) no_members)))) =
    rw (only_member layout target, valued, named, first) (member_written o target) in
    object_written o a c e layout _ _ refl first (λ _. members) last refl

-- ---- the last keywords

pub last_found : (ss : List (Slot Assembled)) (ms : Members)
    → map (held assembled_view) ss ≡ map (λ k. get_member k ms) (first_keywords ++ last_keywords)
    → map (held assembled_view) (take 2 (drop 7 ss)) ≡ map (λ k. get_member k ms) last_keywords
last_found ss ms h =
    sym (take-map (held assembled_view) 2 (drop 7 ss)) ∙ ap (take 2) (sym (drop-map (held assembled_view) 7 ss) ∙ ap (drop 7) h)
