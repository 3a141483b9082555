-- Numbers stand for words that are known, and the number of a fault tells the fault.
use Rattle.std.proofs.Common.{◌≡◌, ◌≢◌, ◌⊎◌, inl, inr, refl, sym, ap, ◌∙◌, zero, suc, ℕ, List, Bool, true, false, nat_lt, true≢false, map, String, Global, string_bytes}
use Rattle.schemars_types.specs.declared.contract.Contract.{Contract}
use Rattle.schemars_types.specs.declared.contract.Contract.TheVariants.{Deserialize, Serialize}
use Rattle.schemagen_run.specs.declared.fault.Fault.{Fault}
use Rattle.schemagen_run.specs.declared.fault.Fault.TheVariants.{Usage, Refused}
use Rattle.schemagen_run.specs.declared.fault.TheConstants.{READ}
use Rattle.schemars_c.proofs.Vocabulary.{IsFault, IsReadFault, IsLineFault, IsTableFault, IsOutside, IsDialect, AreFlagsFor, AskForTypes, AskForSample, names_2020_12, names_2019_09, names_draft_07, names_openapi3, ask_for_types, ask_for_sample, dialect_word, flag_words, table_words, example_words, fault_number, WantsMemory}
use Rattle.schemars_c.specs.declared.handing.TheConstants.{USAGE}

-- ---- words

is_dialect : (dialect : ℕ) → IsDialect (dialect_word dialect)
is_dialect zero = names_2020_12
is_dialect (suc zero) = names_2019_09
is_dialect (suc (suc zero)) = names_draft_07
is_dialect (suc (suc (suc n))) = names_openapi3

are_flags : (flags : ℕ) → (contract : Contract) × (inlines : Bool) × AreFlagsFor contract inlines (flag_words flags)
are_flags zero = (Deserialize, false, refl)
are_flags (suc zero) = (Deserialize, true, refl)
are_flags (suc (suc zero)) = (Serialize, false, refl)
are_flags (suc (suc (suc n))) = (Serialize, true, inl refl)

pub table_words_ask : (words : List (String Global)) (dialect flags : ℕ) → map string_bytes words ≡ table_words dialect flags
    → AskForTypes words
table_words_ask words dialect flags same =
    let (contract, inlines, are) = are_flags flags in
    ask_for_types words (dialect_word dialect) (flag_words flags) contract inlines (is_dialect dialect) are same

pub example_words_ask : (words : List (String Global)) (dialect : ℕ) → map string_bytes words ≡ example_words dialect
    → AskForSample words
example_words_ask words dialect same = ask_for_sample words (dialect_word dialect) (is_dialect dialect) same

-- ---- numbers of faults

abbrev is_small : Fault → Bool
is_small Usage = true
is_small (Refused n) = nat_lt n 25

small_read : (e : Fault) → IsReadFault e → is_small e ≡ true
small_read e (inl is) = ap is_small is
small_read e (inr (inl is)) = ap is_small is
small_read e (inr (inr (inl is))) = ap is_small is
small_read e (inr (inr (inr is))) = ap is_small is

small_table : (e : Fault) → IsTableFault e → is_small e ≡ true
small_table e (inl is) = ap is_small is
small_table e (inr (inl is)) = ap is_small is
small_table e (inr (inr (inl is))) = ap is_small is
small_table e (inr (inr (inr is))) = ap is_small is

small_line : (e : Fault) → IsLineFault e → is_small e ≡ true
small_line e (inl is) = ap is_small is
small_line e (inr (inl table)) = small_table e table
small_line e (inr (inr is)) = ap is_small is

small_outside : (e : Fault) → IsOutside e → is_small e ≡ true
small_outside e (inl is) = ap is_small is
small_outside e (inr (inl is)) = ap is_small is
small_outside e (inr (inr is)) = ap is_small is

small : (e : Fault) → IsFault e → is_small e ≡ true
small e (inl is) = ap is_small is
small e (inr (inl (inl read))) = small_read e read
small e (inr (inl (inr (inl line)))) = small_line e line
small e (inr (inl (inr (inr is)))) = ap is_small is
small e (inr (inr (inl outside))) = small_outside e outside
small e (inr (inr (inr (inl is)))) = ap is_small is
small e (inr (inr (inr (inr is)))) = ap is_small is

-- a fault whose number is that of usage is usage
pub is_usage : (e : Fault) → IsFault e → fault_number e ≡ USAGE → e ≡ Usage
is_usage Usage fault is = refl
is_usage (Refused n) fault is =
    absurd (true≢false (sym (small (Refused n) fault) ∙ ap (λ m. nat_lt m 25) is))

-- the number of a table's fault is its own
pub of_table_number : (e : Fault) (n : ℕ) → n ≡ fault_number e → IsTableFault (Refused n) → e ≡ Refused n
of_table_number Usage n is table = absurd (true≢false (sym (small_table (Refused n) table) ∙ ap (λ m. nat_lt m 25) is))
of_table_number (Refused m) n is table = ap Refused (sym is)

-- so is each small number
pub of_number : (e : Fault) (n m : ℕ) → nat_lt m 25 ≡ true → n ≡ fault_number e → n ≡ m → e ≡ Refused m
of_number Usage n m below is told = absurd (true≢false (sym below ∙ ap (λ k. nat_lt k 25) (sym told ∙ is)))
of_number (Refused k) n m below is told = ap Refused (sym is ∙ told)

-- a fault from outside, where the source never fails
pub wants_memory : (e : Fault) (n : ℕ) → n ≡ fault_number e → e ≢ Refused READ → IsOutside e → WantsMemory n
wants_memory e n is other (inl memory) = inl (is ∙ ap fault_number memory)
wants_memory e n is other (inr (inl read)) = absurd (other read)
wants_memory e n is other (inr (inr write)) = inr (is ∙ ap fault_number write)

pub wants_memory_or : (e : Fault) (n m : ℕ) → n ≡ fault_number e → e ≢ Refused READ → IsOutside e ⊎ (e ≡ Refused m)
    → WantsMemory n ⊎ (n ≡ m)
wants_memory_or e n m is other (inl outside) = inl (wants_memory e n is other outside)
wants_memory_or e n m is other (inr path) = inr (is ∙ ap fault_number path)
