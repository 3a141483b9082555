-- Text in a string, and what stands for it.
use Rattle.std.proofs.Common.{◌≡◌, ℕ, List, ◌∷◌, ◌++◌, ◌-◌, length, take, drop, sym, ap, ◌∙◌, append_assoc, take-append-drop}
use Rattle.schemars_text.proofs.Words.{take_rest, flat_map-append, escape, escape_byte}

pub cut_at : (text : List ℕ) (n : ℕ) → text ≡ take n text ++ take (length text - n) (drop n text)
cut_at text n = sym (take-append-drop n text) ∙ ap (λ l. take n text ++ l) (sym (take_rest text n))

-- the front of the rest stands for itself
pub escaped_front : (written front back rest text : List ℕ) → escape front ≡ front → rest ≡ front ++ back
    → written ++ escape rest ≡ escape text → (written ++ front) ++ escape back ≡ escape text
escaped_front written front back rest text same split before =
    let cut : escape rest ≡ front ++ escape back =
    ap escape split ∙ flat_map-append escape_byte front back ∙ ap (λ l. l ++ escape back) same in
    append_assoc written front (escape back) ∙ ap (λ l. written ++ l) (sym cut) ∙ before

-- and then one byte has its escape
pub escaped_more : (written front after rest text : List ℕ) (byte : ℕ) → escape front ≡ front → rest ≡ front ++ byte ∷ after
    → written ++ escape rest ≡ escape text → ((written ++ front) ++ escape_byte byte) ++ escape after ≡ escape text
escaped_more written front after rest text byte same split before =
    append_assoc (written ++ front) (escape_byte byte) (escape after)
    ∙ escaped_front written front (byte ∷ after) rest text same split before
