-- What is made for a row is its output.
use Rattle.std.proofs.Common.{◌≡◌, ◌≢◌, ℕ, List, true, false, refl, ap, ◌∙◌, sym, subst, String, Global, string_bytes}
use Rattle.schemagen_run.proofs.Vocabulary.{Data, Members, members_have_float, definitions_text, Row, IsAccepted, Generator, state, transforms_of, IsTextOf, State, is_table, IsWrittenDocument, AreDefinitionsOf, IsLineIn, fresh, transforms_of_dialect, IsOutputOf, IsFreshFor}
use Rattle.schemars_transform.specs.declared.no_transform.NoTransform.{NoTransform}
use Rattle.schemagen_run.specs.declared.words.Asked.{Asked}
use Rattle.schemagen_run.specs.declared.words.Dialect.{Dialect}
use Rattle.schemagen_run.specs.declared.words.Dialect.TheVariants.{OpenApi3}
use Rattle.schemagen_run.specs.declared.output.Output.TheVariants as output
use Rattle.schemagen_run.proofs.Runs.{in_draft}

pub text_is_output : (asked : Asked) (rows : List Row) (root : ℕ) (d : Data) (s : String Global) → asked.dialect ≢ OpenApi3
    → IsWrittenDocument asked rows root d → IsTextOf d (string_bytes s) → IsOutputOf asked rows root (output.Text s)
text_is_output asked rows root d s draft written text = λ line of.
    in_draft asked rows root line asked.dialect draft (d, written, (of.0, (λ none. of.1 refl ∙ text none), of.2))

pub definitions_are_output : (asked : Asked) (rows : List Row) (root : ℕ) (taken : Members) (s : String Global)
    → asked.dialect ≡ OpenApi3 → AreDefinitionsOf asked rows root taken
    → (members_have_float taken ≡ false → string_bytes s ≡ definitions_text taken) → IsOutputOf asked rows root (output.Text s)
definitions_are_output asked rows root taken s openapi3 are text = λ line of.
    subst (λ (d : Dialect). IsLineIn d asked rows root line) (sym openapi3)
    (taken, are, (of.0, (λ none. of.1 refl ∙ text none), of.2))

pub is_fresh : (asked : Asked) (g : Generator NoTransform) (rows : List Row) (root : ℕ) → state g ≡ fresh asked rows
    → transforms_of g ≡ transforms_of_dialect asked.dialect → is_table rows root ≡ true → IsAccepted rows
    → IsFreshFor asked g root
is_fresh asked g rows root same transforms table accepted =
    let here : g.rows ≡ rows = ap (λ (s : State). s.rows) same in
    record {
      fresh = same ∙ ap (fresh asked) (sym here);
      transforms = transforms;
      table = ap (λ (rs : List Row). is_table rs root) here ∙ table;
      accepted = subst IsAccepted (sym here) accepted;
    }
