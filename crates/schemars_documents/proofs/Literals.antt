-- A literal is its own document.
use Rattle.std.proofs.Common.{◌≡◌, refl}
use Rattle.schemars_documents.proofs.Words.{Data, boolean, object, IsSchema, literal_document}

pub literal_document-schema : (d : Data) → IsSchema d → literal_document d ≡ d
literal_document-schema (boolean b) is = refl
literal_document-schema (object ms) is = refl
literal_document-schema _ is = absurd is
