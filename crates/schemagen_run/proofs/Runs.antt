-- Which words a run knows, and what it refuses.
use Rattle.std.proofs.Common.{◌≡◌, ◌≢◌, ◌⊎◌, refl, inl, inr, ℕ, map, List, [], ◌∷◌, ◌++◌, append-nil, subst, Option, Some, None, length, get_or, ◌&&◌, true, String, Global, string_bytes, codes, sym, ap, ◌∙◌, arith, Bool, false, nat_lt, ◌||◌, true≢false}
use Rattle.schemagen_run.proofs.Vocabulary.{bytes_eq, bytes_eq-Decides, Row, IsAccepted, Refusal, HasPlainNotes, code_of, error_of, HasFault, IsValueFault, IsReadFault, IsTableFault, IsLineFault, IsOutside, input_of, MatchOption, AskFor, AskForTypes, AskForExample, AskForSample, IsAskedBy, IsKnown, IsDialect, word_for, IsLineOf, IsLineIn, IsDocumentLine, IsRefusal, IsLineRefusal, GivesAll, IsNoJson, IsBadTable, IsTableText, IsAcceptedText, IsNotedText, IsFaultyTable, Tells, IsTableLine, IsSampleLineOf, IsSampleLine, IsAsRead, is_as_read, Data}
use Rattle.schemars_types.specs.declared.error.TypesError as types
use Rattle.schemars_types.specs.declared.error.TypesError.TheVariants as of_types
use Rattle.schemars_generate.specs.declared.error.GenerateError.{GenerateError}
use Rattle.schemars_generate.specs.declared.error.GenerateError.TheVariants.{OutOfMemory, DefinitionsPath}
use Rattle.schemagen_run.specs.declared.fault.Fault.{Fault}
use Rattle.schemagen_run.specs.declared.fault.Fault.TheVariants.{Refused, Usage}
use Rattle.schemars_generate.specs.declared.error.TheConstants.{OUT_OF_MEMORY, DEFINITIONS_PATH}
use Rattle.schemagen_run.specs.declared.fault.TheConstants.{NOT_JSON, BAD_TABLE, WRITE}
use Rattle.schemagen_run.specs.declared.words.Asked.{Asked}
use Rattle.schemagen_run.specs.declared.words.Dialect.{Dialect}
use Rattle.schemagen_run.specs.declared.words.Dialect.TheVariants.{Draft2020_12, Draft2019_09, Draft07, OpenApi3}
use Rattle.schemagen_run.specs.Run.{IsTextOf}

is_word : (a u : String Global) (t : List ℕ) → a ≡ u → bytes_eq (string_bytes a) t ≡ true → string_bytes u ≡ t
is_word a u t same is = ap string_bytes (sym same) ∙ (bytes_eq-Decides (string_bytes a) t).0 is

-- ---- words

-- what the word for the dialect and the flags behind it tell, and what all words do
abbrev pub Told : Option Asked → List ℕ → List (List ℕ) → Type 0
Told r word flags = MatchOption r (¬ (IsKnown word flags)) (IsAskedBy word flags)

abbrev ToldOfAll : Option Asked → List (String Global) → Type 0
ToldOfAll r words = MatchOption r (¬ (AskForTypes words)) (AskFor words)

asked_words : (u v : String Global) (fs : List (String Global)) (r : Option Asked) → string_bytes u ≡ codes "types"
    → Told r (string_bytes v) (map string_bytes fs) → ToldOfAll r (u ∷ v ∷ fs)
asked_words u v fs None types unknown = λ (asked, (word, flags, by, is)).
    let dialect : word ≡ string_bytes v = cc in
    let others : flags ≡ map string_bytes fs = cc in
    unknown (asked, subst (λ l. IsAskedBy (string_bytes v) l asked) others (subst (λ t. IsAskedBy t flags asked) dialect by))
asked_words u v fs (Some asked) types by =
    (string_bytes v, map string_bytes fs, by, ap (λ (t : List ℕ). t ∷ string_bytes v ∷ map string_bytes fs) types)

pub two_words : (words : List (String Global)) (a b : String Global) → length words ≡ 2 → a ≡ get_or words 0 a → b ≡ get_or words 1 b
    → bytes_eq (string_bytes a) (codes "types") ≡ true → (r : Option Asked) → Told r (string_bytes b) [] → ToldOfAll r words
two_words [] a b two first second types r told = absurd (omega arith)
two_words (u ∷ []) a b two first second types r told = absurd (omega arith)
two_words (u ∷ v ∷ w ∷ ws) a b two first second types r told = absurd (omega arith)
two_words (u ∷ v ∷ []) a b two first second types r told =
    asked_words u v [] r (is_word a u (codes "types") first types) (subst (λ t. Told r t []) (ap string_bytes second) told)

pub three_words : (words : List (String Global)) (a b c : String Global) → length words ≡ 3 → a ≡ get_or words 0 a → b ≡ get_or words 1 b
    → c ≡ get_or words 2 c → bytes_eq (string_bytes a) (codes "types") ≡ true → (r : Option Asked)
    → Told r (string_bytes b) (string_bytes c ∷ []) → ToldOfAll r words
three_words [] a b c three first second third types r told = absurd (omega arith)
three_words (u ∷ []) a b c three first second third types r told = absurd (omega arith)
three_words (u ∷ v ∷ []) a b c three first second third types r told = absurd (omega arith)
three_words (u ∷ v ∷ w ∷ x ∷ ws) a b c three first second third types r told = absurd (omega arith)
three_words (u ∷ v ∷ w ∷ []) a b c three first second third types r told =
    asked_words u v (w ∷ []) r (is_word a u (codes "types") first types)
    (subst (λ t. Told r t (string_bytes w ∷ [])) (ap string_bytes second)
    (subst (λ t. Told r (string_bytes b) (t ∷ [])) (ap string_bytes third) told))

pub four_words : (words : List (String Global)) (a b c d : String Global) → length words ≡ 4 → a ≡ get_or words 0 a → b ≡ get_or words 1 b
    → c ≡ get_or words 2 c → d ≡ get_or words 3 d → bytes_eq (string_bytes a) (codes "types") ≡ true → (r : Option Asked)
    → Told r (string_bytes b) (string_bytes c ∷ string_bytes d ∷ []) → ToldOfAll r words
four_words [] a b c d four first second third fourth types r told = absurd (omega arith)
four_words (u ∷ []) a b c d four first second third fourth types r told = absurd (omega arith)
four_words (u ∷ v ∷ []) a b c d four first second third fourth types r told = absurd (omega arith)
four_words (u ∷ v ∷ w ∷ []) a b c d four first second third fourth types r told = absurd (omega arith)
four_words (u ∷ v ∷ w ∷ x ∷ y ∷ ws) a b c d four first second third fourth types r told = absurd (omega arith)
four_words (u ∷ v ∷ w ∷ x ∷ []) a b c d four first second third fourth types r told =
    asked_words u v (w ∷ x ∷ []) r (is_word a u (codes "types") first types)
    (subst (λ t. Told r t (string_bytes w ∷ string_bytes x ∷ [])) (ap string_bytes second)
    (subst (λ t. Told r (string_bytes b) (t ∷ string_bytes x ∷ [])) (ap string_bytes third)
    (subst (λ t. Told r (string_bytes b) (string_bytes c ∷ t ∷ [])) (ap string_bytes fourth) told)))

pub sample_words : (words : List (String Global)) (a b : String Global) → length words ≡ 2 → a ≡ get_or words 0 a → b ≡ get_or words 1 b
    → bytes_eq (string_bytes a) (codes "sample") ≡ true → (r : Option Dialect)
    → MatchOption r (¬ (IsDialect (string_bytes b))) (λ d. string_bytes b ≡ word_for d)
    → MatchOption r (¬ (AskForSample words)) (AskForExample words)
sample_words [] a b two first second sample r told = absurd (omega arith)
sample_words (u ∷ []) a b two first second sample r told = absurd (omega arith)
sample_words (u ∷ v ∷ w ∷ ws) a b two first second sample r told = absurd (omega arith)
sample_words (u ∷ v ∷ []) a b two first second sample None unknown = λ (dialect, is).
    let word : string_bytes v ≡ word_for dialect = cc in
    unknown (dialect, ap string_bytes second ∙ word)
sample_words (u ∷ v ∷ []) a b two first second sample (Some dialect) word =
    rw (is_word a u (codes "sample") first sample, sym (ap string_bytes second) ∙ word) refl

-- ---- lines

-- the line of a document, where the dialect has one
pub in_draft : (asked : Asked) (rows : List Row) (root : ℕ) (line : List ℕ) (dialect : Dialect) → dialect ≢ OpenApi3
    → IsDocumentLine asked rows root line → IsLineIn dialect asked rows root line
in_draft asked rows root line Draft2020_12 draft of = of
in_draft asked rows root line Draft2019_09 draft of = of
in_draft asked rows root line Draft07 draft of = of
in_draft asked rows root line OpenApi3 draft of = absurd (draft refl)

-- the line of the table that is read, of which Q holds
pub gives_line : {Q : List ℕ → Type 0} (asked : Asked) (rows : List Row) (root : ℕ) (line : List ℕ) (old new : Option (List ℕ))
    → GivesAll old new (IsTableText rows root) → IsAccepted rows → IsLineOf asked rows root line → Q line
    → GivesAll old new (λ bytes. IsTableLine asked bytes Q)
gives_line asked rows root line old new (bytes, consumed, end, text) accepted of holds =
    (bytes, consumed, end, (rows, (root, (line, text, accepted, of, holds))))

-- that of the example that is read
pub gives_sample_line : {Q : List ℕ → Type 0} (dialect : Dialect) (d : Data) (line : List ℕ) (old new : Option (List ℕ))
    → GivesAll old new (IsTextOf d) → (IsAsRead d → IsSampleLineOf dialect d line) → Q line
    → GivesAll old new (λ bytes. IsSampleLine dialect bytes Q)
gives_sample_line dialect d line old new (bytes, consumed, end, text) of holds =
    (bytes, consumed, end, (d, (line, text, of (is_as_read bytes d text.1), holds)))

-- ---- tables without faults

-- what is known to be left is what the source gives
pub gave : {Q : List ℕ → Type 0} (bytes : List ℕ) (old new : Option (List ℕ)) → old ≡ Some bytes → GivesAll old new Q → Q bytes
gave bytes None new is given = cc
gave bytes (Some xs) None is (bs, consumed, end, q) = absurd consumed
gave {Q} bytes (Some xs) (Some ys) is (bs, consumed, end, q) =
    let same : xs ≡ bytes = cc in
    subst Q (sym (append-nil bs) ∙ ap (λ (l : List ℕ). bs ++ l) (sym end) ∙ sym consumed ∙ same) q

no_json : (bytes : List ℕ) → IsNoJson bytes → IsAcceptedText bytes → ⊥
no_json bytes (inl none) (rows, (root, (d, (utf8, is), said), accepted)) = none utf8
no_json bytes (inr none) (rows, (root, (d, (utf8, is), said), accepted)) = cc

no_table : (bytes : List ℕ) → IsBadTable bytes → IsAcceptedText bytes → ⊥
no_table bytes (d, (utf8, is), none) (rows, (root, (e, (text, also), said), accepted)) =
    let same : d ≡ e = cc in
    let none_said : input_of e ≡ None = ap input_of (sym same) ∙ none in
    cc

-- what they are refused for while they are read
pub read_outside : (bytes : List ℕ) (old new : Option (List ℕ)) (e : Fault) → old ≡ Some bytes → IsAcceptedText bytes → IsReadFault e
    → (e ≡ Refused NOT_JSON → GivesAll old new IsNoJson) → (e ≡ Refused BAD_TABLE → GivesAll old new IsBadTable) → IsOutside e
read_outside bytes old new e known text (inl memory) not_json bad_table = inl memory
read_outside bytes old new e known text (inr (inl failed)) not_json bad_table = inr (inl failed)
read_outside bytes old new e known text (inr (inr (inl is))) not_json bad_table =
    absurd (no_json bytes (gave bytes old new known (not_json is)) text)
read_outside bytes old new e known text (inr (inr (inr is))) not_json bad_table =
    absurd (no_table bytes (gave bytes old new known (bad_table is)) text)

-- one text is that of one table
same_table : (bytes : List ℕ) (rows others : List Row) (root other : ℕ) → IsTableText rows root bytes
    → IsTableText others other bytes → others ≡ rows
same_table bytes rows others root other (d, (utf8, is), said) (e, (text, also), told) =
    let same : d ≡ e = cc in
    first_same (sym said ∙ ap input_of same ∙ told)
  where
    first_same : {p q : List Row × ℕ} → Some p ≡ Some q → q.0 ≡ p.0
    first_same h = cc

-- the table that was read is the one without faults
pub read_is_accepted : (bytes : List ℕ) (rows : List Row) (root : ℕ) → IsTableText rows root bytes
    → IsAcceptedText bytes → IsAccepted rows
read_is_accepted bytes rows root text (others, (other, also, accepted)) =
    subst IsAccepted (same_table bytes rows others root other text also) accepted

pub read_is_noted : (bytes : List ℕ) (rows : List Row) (root : ℕ) → IsTableText rows root bytes → IsNotedText bytes
    → IsAccepted rows × HasPlainNotes rows
read_is_noted bytes rows root text (others, (other, also, accepted, plain)) =
    let same = same_table bytes rows others root other text also in
    (subst IsAccepted same accepted, subst HasPlainNotes same plain)

pub noted_is_accepted : (bytes : List ℕ) → IsNotedText bytes → IsAcceptedText bytes
noted_is_accepted bytes (rows, (root, text, accepted, plain)) = (rows, (root, text, accepted))

-- ---- tables with a fault

memory_is_not_of_table : (e : Fault) → e ≡ Refused OUT_OF_MEMORY → IsTableFault e → ⊥
memory_is_not_of_table e memory (inl is) = cc
memory_is_not_of_table e memory (inr (inl is)) = cc
memory_is_not_of_table e memory (inr (inr (inl is))) = cc
memory_is_not_of_table e memory (inr (inr (inr is))) = cc

path_is_not_of_table : (e : Fault) → e ≡ Refused DEFINITIONS_PATH → IsTableFault e → ⊥
path_is_not_of_table e path (inl is) = cc
path_is_not_of_table e path (inr (inl is)) = cc
path_is_not_of_table e path (inr (inr (inl is))) = cc
path_is_not_of_table e path (inr (inr (inr is))) = cc

memory_is_no_path : (e : Fault) → e ≡ Refused OUT_OF_MEMORY → e ≡ Refused DEFINITIONS_PATH → ⊥
memory_is_no_path e memory path = cc

-- a refusal of the table that was read
pub read_is_faulty : {U : Type 0} (rows : List Row) (root : ℕ) (old new : Option (List ℕ)) (e : Fault)
    → GivesAll old new (IsTableText rows root)
    → (e ≡ Refused OUT_OF_MEMORY) ⊎ Tells rows e ⊎ ((e ≡ Refused DEFINITIONS_PATH) × U)
    → IsTableFault e → GivesAll old new (IsFaultyTable e)
read_is_faulty rows root old new e given (inl memory) fault = absurd (memory_is_not_of_table e memory fault)
read_is_faulty rows root old new e (bytes, consumed, end, text) (inr (inl told)) fault =
    (bytes, consumed, end, (rows, (root, text, told)))
read_is_faulty rows root old new e given (inr (inr path)) fault = absurd (path_is_not_of_table e path.0 fault)

-- ---- refusals of the generator

of_code : (e d : GenerateError) (f : Fault) → f ≡ Refused (code_of e) → e ≡ d → f ≡ Refused (code_of d)
of_code e d f same is = same ∙ ap (λ (x : GenerateError). Refused (code_of x)) is

-- the fault of a table, told by its number
of_table : (rows : List Row) (e : GenerateError) (f : Fault) → HasFault rows e → f ≡ Refused (code_of e)
    → IsTableFault f
of_table rows e f fault same = by fault.fault fault.refusal (of_code e (error_of fault.fault) f same fault.is_told)
  where
    by : (t : types.TypesError) → Refusal rows t → f ≡ Refused (code_of (error_of t)) → IsTableFault f
    by (of_types.UndefinedType n) refusal is = inl is
    by (of_types.RepeatedName n name) refusal is = inr (inl is)
    by (of_types.DirectCycle n) refusal is = inr (inr (inl is))
    by (of_types.EmptyCycle n) refusal is = inr (inr (inr is))
    by of_types.OutOfMemory refusal is = absurd refusal
    by (of_types.AlreadyDefined n) refusal is = absurd refusal
    by (of_types.UnknownType n) refusal is = absurd refusal

-- a refusal of the generator, told by its number
pub told : {U : Type 0} (rows : List Row) (e : GenerateError) (f : Fault)
    → (e ≡ OutOfMemory) ⊎ HasFault rows e ⊎ ((e ≡ DefinitionsPath) × U) → f ≡ Refused (code_of e)
    → (f ≡ Refused OUT_OF_MEMORY) ⊎ Tells rows f ⊎ ((f ≡ Refused DEFINITIONS_PATH) × U)
told rows e f (inl memory) same = inl (of_code e OutOfMemory f same memory)
told rows e f (inr (inl fault)) same = inr (inl (e, fault, same))
told rows e f (inr (inr (path, why))) same = inr (inr (of_code e DefinitionsPath f same path, why))

pub told_of_two : (e : GenerateError) (f : Fault) → (e ≡ OutOfMemory) ⊎ (e ≡ DefinitionsPath) → f ≡ Refused (code_of e)
    → (f ≡ Refused OUT_OF_MEMORY) ⊎ (f ≡ Refused DEFINITIONS_PATH)
told_of_two e f (inl memory) same = inl (of_code e OutOfMemory f same memory)
told_of_two e f (inr path) same = inr (of_code e DefinitionsPath f same path)

-- is one of a line
pub of_line : {U : Type 0} (rows : List Row) (e : GenerateError) (f : Fault)
    → (e ≡ OutOfMemory) ⊎ HasFault rows e ⊎ ((e ≡ DefinitionsPath) × U) → f ≡ Refused (code_of e) → IsLineFault f
of_line rows e f (inl memory) same = inl (of_code e OutOfMemory f same memory)
of_line rows e f (inr (inl fault)) same = inr (inl (of_table rows e f fault same))
of_line rows e f (inr (inr (path, why))) same = inr (inr (of_code e DefinitionsPath f same path))

-- a refusal of the generator refuses the line
pub line_refused : (asked : Asked) (rows : List Row) (root : ℕ) (e : GenerateError) (f : Fault) → IsRefusal asked rows root e
    → f ≡ Refused (code_of e) → IsLineRefusal asked rows root f
line_refused asked rows root e f why same = record {
  refused = told rows e f why.refused same;
  faults = of_line rows e f why.refused same;
  unfaulty = λ accepted. told_of_two e f (why.unfaulty accepted) same;
  only_memory = λ accepted plain. of_code e OutOfMemory f same (why.only_memory accepted plain);
}

-- a refusal of its document
pub has_no_place : {U : Type 0} (rows : List Row) (e : Fault)
    → (e ≡ Refused OUT_OF_MEMORY) ⊎ Tells rows e ⊎ ((e ≡ Refused DEFINITIONS_PATH) × U) → e ≡ Refused DEFINITIONS_PATH
    → U
has_no_place rows e (inl memory) path = absurd (memory_is_no_path e memory path)
has_no_place rows e (inr (inl (x, fault, same))) path =
    absurd (path_is_not_of_table e path (of_table rows x e fault same))
has_no_place rows e (inr (inr (is, why))) path = why

-- a refusal of a table without faults
pub is_outside : (e : Fault) → (e ≡ Refused OUT_OF_MEMORY) ⊎ (e ≡ Refused DEFINITIONS_PATH)
    → IsOutside e ⊎ (e ≡ Refused DEFINITIONS_PATH)
is_outside e (inl memory) = inl (inl memory)
is_outside e (inr path) = inr path

-- ---- one fault is no other

is_read_fault : Fault → Bool
is_read_fault Usage = false
is_read_fault (Refused n) = nat_lt n 2 || (nat_lt 19 n && nat_lt n 24)

of_reading : (e : Fault) → IsReadFault e → is_read_fault e ≡ true
unfolding is_read_fault
of_reading e (inl is) = ap is_read_fault is
of_reading e (inr (inl is)) = ap is_read_fault is
of_reading e (inr (inr (inl is))) = ap is_read_fault is
of_reading e (inr (inr (inr is))) = ap is_read_fault is

of_no_reading : (e : Fault) → IsTableFault e → is_read_fault e ≡ false
unfolding is_read_fault
of_no_reading e (inl is) = ap is_read_fault is
of_no_reading e (inr (inl is)) = ap is_read_fault is
of_no_reading e (inr (inr (inl is))) = ap is_read_fault is
of_no_reading e (inr (inr (inr is))) = ap is_read_fault is

pub read_is_of_no_table : (e : Fault) → IsReadFault e → IsTableFault e → ⊥
read_is_of_no_table e read table = true≢false (sym (of_reading e read) ∙ of_no_reading e table)

pub read_is_no_write : (e : Fault) → IsReadFault e → e ≡ Refused WRITE → ⊥
unfolding is_read_fault
read_is_no_write e read is = true≢false (sym (of_reading e read) ∙ ap is_read_fault is)

-- a refusal while a value is read
pub value_is_no_write : (e : Fault) → IsValueFault e → e ≡ Refused WRITE → ⊥
value_is_no_write e (inl memory) = read_is_no_write e (inl memory)
value_is_no_write e (inr (inl read)) = read_is_no_write e (inr (inl read))
value_is_no_write e (inr (inr json)) = read_is_no_write e (inr (inr (inl json)))

pub read_is_no_path : (e : Fault) → IsReadFault e → e ≡ Refused DEFINITIONS_PATH → ⊥
unfolding is_read_fault
read_is_no_path e read is = true≢false (sym (of_reading e read) ∙ ap is_read_fault is)

abbrev pub is_line_fault : Fault → Bool
is_line_fault Usage = false
is_line_fault (Refused n) = nat_lt n 10

of_writing : (e : Fault) → IsLineFault e → is_line_fault e ≡ true
of_writing e (inl is) = ap is_line_fault is
of_writing e (inr (inl (inl is))) = ap is_line_fault is
of_writing e (inr (inl (inr (inl is)))) = ap is_line_fault is
of_writing e (inr (inl (inr (inr (inl is))))) = ap is_line_fault is
of_writing e (inr (inl (inr (inr (inr is))))) = ap is_line_fault is
of_writing e (inr (inr is)) = ap is_line_fault is

-- a refusal of the table that was read is none of these
pub line_is_no_other : (e f : Fault) → IsLineFault e → is_line_fault f ≡ false → e ≡ f → ⊥
line_is_no_other e f line other is = true≢false (sym (of_writing e line) ∙ ap is_line_fault is ∙ other)
