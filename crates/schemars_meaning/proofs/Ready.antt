-- Null can be added to each document.
use Rattle.std.proofs.Common.{◌≡◌, inl, inr, ℕ, List, [], ◌∷◌, Bool, true, false, refl, sym, subst, true≢false}
use Rattle.schemars_meaning.proofs.Words.{codes, Data, Text, IsReady, Keyword, int_document, non_zero_document, bytes_document, required_names, reference, Field, AreReady, some_accepts_null}
use Rattle.schemars_shapes.specs.declared.shape.IntKind.{IntKind}
use Rattle.schemars_shapes.specs.declared.shape.IntKind.TheVariants.{I8, I16, I32, I64, I128, Isize}
use Rattle.schemars_types.specs.declared.contract.Contract.{Contract}
use Rattle.schemars_types.specs.declared.contract.Contract.TheVariants.{Deserialize, Serialize}
use Rattle.schemars_meaning.proofs.Spread.{field_keywords, IsFieldsDocument}
use Rattle.schemars_meaning.proofs.Notes.{ready-noted_by}
use Rattle.schemars_meaning.proofs.MapDocument.{map_document}
use Rattle.schemars_meaning.proofs.ByShape.{tuple_document, one_of_document, any_of_document, units_document}

pub int_ready : (kind : IntKind) → IsReady (int_document kind)
int_ready I8 = inr (record { alone = refl; type_form = refl; values = inl refl; not_form = inl refl })
int_ready _ = inr (record { alone = refl; type_form = refl; values = inl refl; not_form = inl refl })

pub non_zero_ready : (kind : IntKind) → IsReady (non_zero_document kind)
non_zero_ready I8 = inr (record { alone = refl; type_form = refl; values = inl refl; not_form = inr refl })
non_zero_ready I16 = inr (record { alone = refl; type_form = refl; values = inl refl; not_form = inr refl })
non_zero_ready I32 = inr (record { alone = refl; type_form = refl; values = inl refl; not_form = inr refl })
non_zero_ready I64 = inr (record { alone = refl; type_form = refl; values = inl refl; not_form = inr refl })
non_zero_ready I128 = inr (record { alone = refl; type_form = refl; values = inl refl; not_form = inr refl })
non_zero_ready Isize = inr (record { alone = refl; type_form = refl; values = inl refl; not_form = inr refl })
non_zero_ready _ = inr (record { alone = refl; type_form = refl; values = inl refl; not_form = inl refl })

pub bytes_ready : (contract : Contract) → IsReady (bytes_document contract)
bytes_ready Deserialize = inr (record {
  alone = refl;
  type_form = (codes "array" ∷ codes "string" ∷ [], refl, refl);
  values = inl refl;
  not_form = inl refl;
})
bytes_ready Serialize = inr (record { alone = refl; type_form = refl; values = inl refl; not_form = inl refl })

pub map_ready : (es : List Keyword) (ns : List Text) (closed : Bool) → IsReady (map_document es ns closed)
map_ready [] [] false = inr (record { alone = refl; type_form = refl; values = inl refl; not_form = inl refl })
map_ready [] [] true = inr (record { alone = refl; type_form = refl; values = inl refl; not_form = inl refl })
map_ready [] (n ∷ ns) false = inr (record { alone = refl; type_form = refl; values = inl refl; not_form = inl refl })
map_ready [] (n ∷ ns) true = inr (record { alone = refl; type_form = refl; values = inl refl; not_form = inl refl })
map_ready (e ∷ es) [] false = inr (record { alone = refl; type_form = refl; values = inl refl; not_form = inl refl })
map_ready (e ∷ es) [] true = inr (record { alone = refl; type_form = refl; values = inl refl; not_form = inl refl })
map_ready (e ∷ es) (n ∷ ns) false =
    inr (record { alone = refl; type_form = refl; values = inl refl; not_form = inl refl })
map_ready (e ∷ es) (n ∷ ns) true =
    inr (record { alone = refl; type_form = refl; values = inl refl; not_form = inl refl })

pub tuple_ready : (ts : List Data) → IsReady (tuple_document ts)
tuple_ready [] = inr (record { alone = refl; type_form = refl; values = inl refl; not_form = inl refl })
tuple_ready (t ∷ ts) = inr (record { alone = refl; type_form = refl; values = inl refl; not_form = inl refl })

pub one_of_ready : (ts : List Data) (s : Data) → s ≡ one_of_document ts → IsReady s
one_of_ready ts s is =
    rw is (inl (λ dialect draft. record { combined = refl; offers = λ stays. absurd (true≢false (sym stays)) }, refl))

pub any_of_ready : (ts : List Data) → AreReady ts → IsReady (any_of_document ts)
any_of_ready ts r = inl (
  λ dialect draft. record { combined = refl; offers = λ stays. some_accepts_null dialect draft ts r stays },
  refl,
)

pub units_ready : (ks : List Text) → IsReady (units_document ks)
units_ready ks = inr (record { alone = refl; type_form = refl; values = inl refl; not_form = inl refl })

pub fields_ready : (W : ℕ → Data → Type 0) (contract : Contract) (list : List Field) (closed : Bool) (s : Data)
    → IsFieldsDocument W contract list closed s → IsReady s
fields_ready W contract list closed s d = subst IsReady (sym d.is) (ready-noted_by d.notes _ d.are_notes
    (map_ready (field_keywords list d.parts) (required_names contract list) closed))

pub reference_ready : (r : Text) → IsReady (reference r)
reference_ready r =
    inl (λ dialect draft. record { combined = refl; offers = λ stays. absurd (true≢false (sym stays)) }, refl)
