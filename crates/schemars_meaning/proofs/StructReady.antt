-- Null can be added to the document of a map with fields, and with enums among its members.
use Rattle.std.proofs.Common.{◌≡◌, ℕ, inl, inr, List, Bool, true, false, refl, sym, ap, ◌∙◌, true≢false, subst}
use Rattle.schemars_meaning.proofs.Words.{codes, ◌&&◌, option_and_then, Data, object, Members, get_member, as_str, Text, Context, Dialect, IsReady, Field, VariantMatch, Keyword, required_names, and-false, is_text, has_one_member, is_combined, offers_null, IsChoice, HasTypeForm, IsPlain}
use Rattle.schemars_types.specs.declared.contract.Contract.{Contract}
use Rattle.schemars_meaning.proofs.Spread.{field_keywords}
use Rattle.schemars_meaning.proofs.StructForm.{Parts, struct_keywords}
use Rattle.schemars_meaning.proofs.Uniting.{IsForm, has_parts}
use Rattle.schemars_meaning.proofs.StructDocuments.{IsStruct}

module _ (es : List Keyword) (ns : List Text) (ps : Parts) (closed : Bool) (ms : Members)
    (form : IsForm (struct_keywords es ns ps closed) ms) where
  no_null_type : is_text (codes "null") (option_and_then as_str (get_member (codes "type") ms)) ≡ false
  no_null_type = ap (λ o. is_text (codes "null") (option_and_then as_str o)) (form.at (codes "type") refl)

  combined : is_combined (object ms) ≡ has_parts ps
  combined = rw (
    form.at (codes "if") refl,
    form.at (codes "allOf") refl,
    form.at (codes "anyOf") refl,
    form.at (codes "oneOf") refl,
    form.at (codes "$ref") refl,
    form.at (codes "not") refl,
  ) refl

  struct_choice : has_parts ps ≡ true → (dialect : Dialect) → IsChoice dialect ms
  struct_choice parts dialect = record {
    combined = combined ∙ parts;
    offers = λ stays. absurd (true≢false (sym stays
        ∙ (ap (λ o. has_one_member (object ms) && offers_null o) (form.at (codes "anyOf") refl) ∙ and-false (has_one_member (object ms)))));
  }

  struct_plain : has_parts ps ≡ false → IsPlain ms
  struct_plain parts = record {
    alone = combined ∙ parts;
    type_form = subst HasTypeForm (sym (form.at (codes "type") refl)) refl;
    values = inl (form.at (codes "const") refl);
    not_form = inl (form.at (codes "not") refl);
  }

  form_ready : IsReady (object ms)
  form_ready = go (has_parts ps) refl
    where
      go : (b : Bool) → has_parts ps ≡ b → IsReady (object ms)
      go true parts = inl (λ dialect draft. struct_choice parts dialect, no_null_type)
      go false parts = inr (struct_plain parts)

pub map_with_parts_ready : (c : Context) (on : c.dialect.reads_unevaluated ≡ true) (contract : Contract) (W : ℕ → Data → Type 0) (v : Data)
    (list : List Field) (matches_of : List (List VariantMatch)) (closed : Bool) (s : Data) → IsStruct c on contract W v list matches_of closed s
    → IsReady s
map_with_parts_ready c on contract W v list matches_of closed s a =
    subst IsReady (sym a.is)
    (form_ready (field_keywords list a.written) (required_names contract list) a.parts closed a.members a.form)
