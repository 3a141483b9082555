-- The definitions of a document, and how they may refer to others.
use Rattle.std.proofs.Common.{◌≡◌, ◌⊎◌, inl, inr, ℕ, Some, None, Bool, true, false, refl, arith}
use Rattle.schemars_headline.proofs.Words.{IsUtf8, Data, get_member, Text, Describes, name_of, Plan, Registry, Refers, basis_of_plan, describes-wider, document_describes}
use Rattle.schemars_build.specs.Registry.{IsDefinition}

-- with `#` free there are more references
pub free_refers : (plan : Plan) (w : Registry) (free : Bool) (j : ℕ) (r : Text) → Refers plan free w j r → Refers plan true w j r
free_refers plan w free j r (inl h) = inl (h.0, refl, h.2, h.3)
free_refers plan w free j r (inr h) = inr h

-- a call without a root, as earlier ones are to the definitions that they left
abbrev pub rootless : Plan → Plan
rootless plan = record plan { root = None }

-- how a definition of a document may refer: as the running call does, or as an earlier one did, by the name of each row
abbrev pub MayRefer : Plan → Registry → ℕ → Text → Type 0
MayRefer plan w n r = Refers plan true w n r ⊎ Refers (rootless plan) true w n r

pub refers_may : (plan : Plan) (w : Registry) (free : Bool) (j : ℕ) (r : Text) → Refers plan free w j r → MayRefer plan w j r
refers_may plan w free j r h = inl (free_refers plan w free j r h)

-- a definition in the document of the running call
pub record Stands (plan : Plan) (w : Registry) (name : Text) (d : Data) : Type 0 where
  pub row : ℕ
  pub is_named : name_of row plan.contract w.names ≡ Some name
  pub is_text : IsUtf8 name
  pub depth : ℕ
  pub describes : Describes (basis_of_plan plan) (MayRefer plan w) depth row d

abbrev pub AllStand : Plan → Registry → Type 0
AllStand plan w = (name : Text) (d : Data) → get_member name w.definitions ≡ Some d → Stands plan w name d

pub stands_now : (plan : Plan) (w : Registry) (name : Text) (d : Data) → IsDefinition plan w name d → Stands plan w name d
stands_now plan w name d h = record {
  row = h.row;
  is_named = h.is_named;
  is_text = h.is_text;
  depth = h.document.0;
  describes = describes-wider (basis_of_plan plan) (Refers plan false w) (MayRefer plan w) (refers_may plan w false)
      h.document.0 h.document.0 (omega arith) h.row d
      (document_describes (basis_of_plan plan) plan.inlines (Refers plan false w) h.pending h.row d h.document);
}

pub stands_before : (plan : Plan) (w : Registry) (name : Text) (d : Data) → IsDefinition (rootless plan) w name d → Stands plan w name d
stands_before plan w name d h = record {
  row = h.row;
  is_named = h.is_named;
  is_text = h.is_text;
  depth = h.document.0;
  describes = describes-wider (basis_of_plan plan) (Refers (rootless plan) false w) (MayRefer plan w)
      (λ j r e. inr (free_refers (rootless plan) w false j r e)) h.document.0 h.document.0 (omega arith) h.row d
      (document_describes (basis_of_plan plan) plan.inlines (Refers (rootless plan) false w) h.pending h.row d h.document);
}
