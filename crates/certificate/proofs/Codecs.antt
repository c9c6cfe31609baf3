-- Each group of fields: what was written is read back, and what is read is that writing.
use Rattle.std.proofs.Common.{◌≡◌, ℕ, List, ◌++◌, length, Ok, Result, sym, refl, ap, ◌∙◌, subst}
use Rattle.std.specs.Int.Digits.{AllBelowBase}
use Rattle.std.proofs.lemmas.List.{append_assoc}
use Rattle.certificate.specs.declared.fault.Refusal.{Refusal}
use Rattle.certificate.specs.declared.fields.Identity.{Identity}
use Rattle.certificate.specs.declared.fields.Header.{Header}
use Rattle.certificate.specs.declared.fields.Base.{Base}
use Rattle.certificate.specs.declared.fields.Id.{Id}
use Rattle.certificate.specs.declared.fields.Ianda.{Ianda}
use Rattle.certificate.specs.Der.{encode_integer, wrap}
use Rattle.certificate.specs.Placed.{State, number_at, octets_at, followed}
use Rattle.certificate.specs.Fields.{identity_at, header_at, base_at, id_at, ianda_at, identity_bytes, header_bytes, base_bytes, id_bytes, ianda_bytes}
use Rattle.certificate.specs.Laws.{Fits, IdentityFits, HeaderFits, BaseFits, IdFits, IandaFits}
use Rattle.certificate.proofs.Elements.{same_ok}
use Rattle.certificate.proofs.States.{followed_ok, number_only, octets_only, number_back, octets_back, under_right}

-- what is read is what e writes, and bytes follow
pub record Only {A : Type 0} (p : State → Result (A × State) Refusal) (e : A → List ℕ) : Type 0 where
  pub reads : (s t : State) (x : A) → AllBelowBase 256 s.0 → p s ≡ Ok (x, t) → (s.0 ≡ e x ++ t.0) × AllBelowBase 256 t.0

-- a reading and a writing that belong together
pub record Codec {A : Type 0} (p : State → Result (A × State) Refusal) (e : A → List ℕ) (F : A → Type 0) : Type 0 where
  pub back : (x : A) (at : ℕ) (rest : List ℕ) → F x → (k : ℕ) × (p (e x ++ rest, at) ≡ Ok (x, (rest, k)))
  pub only : Only p e

-- the first of several readings
pub peel : {A B : Type 0} {p : State → Result (A × State) Refusal} {e : A → List ℕ} → Only p e
    → (s : State) (f : A → State → Result B Refusal) (y : B) → AllBelowBase 256 s.0 → followed (p s) f ≡ Ok y
    → (x : A) × (t : State) × (s.0 ≡ e x ++ t.0) × AllBelowBase 256 t.0 × (f x t ≡ Ok y)
peel {p = p} only s f y u h =
    let a = followed_ok (p s) f y h in
    let b = only.reads s a.0.1 a.0.0 u a.1 in
    (a.0.0, a.0.1, b.0, b.1, a.2)

pub number_codec : Codec number_at encode_integer Fits
number_codec = record { back = number_back; only = record { reads = number_only } }

pub octets_codec : Codec octets_at (wrap 4) (λ m. length m ≡ 32)
octets_codec =
    record {
      back = octets_back;
      only = record { reads = λ s t x u h. let e = octets_only s t x h in (e, under_right (wrap 4 x) t.0 (subst (AllBelowBase 256) e u)) };
    }

-- two, and three, one after the other

abbrev two : {A B T : Type 0} → (State → Result (A × State) Refusal) → (State → Result (B × State) Refusal) → (A → B → T) → State → Result (T × State) Refusal
two {T = T} p q make s = followed {B = T × State} (p s) (λ x s1. followed {B = T × State} (q s1) (λ y s2. Ok (make x y, s2)))

abbrev three : {A B C T : Type 0} → (State → Result (A × State) Refusal) → (State → Result (B × State) Refusal) → (State → Result (C × State) Refusal) → (A → B → C → T)
    → State → Result (T × State) Refusal
three {T = T} p q r make s = followed {B = T × State} (p s) (λ x s1. two q r (make x) s1)

module _ {A B T : Type 0} {p : State → Result (A × State) Refusal} {q : State → Result (B × State) Refusal} {d : A → List ℕ} {e : B → List ℕ} {F : A → Type 0} {G : B → Type 0}
    (left : Codec p d F) (right : Codec q e G) (make : A → B → T) (bytes : T → List ℕ) (is : (x : A) (y : B) → bytes (make x y) ≡ d x ++ e y) where
  pub two_only : (s t : State) (z : T) → AllBelowBase 256 s.0 → two p q make s ≡ Ok (z, t)
      → (s.0 ≡ bytes z ++ t.0) × AllBelowBase 256 t.0
  two_only s t z u h =
      let a = peel left.only s _ (z, t) u h in
      let b = peel right.only a.1 _ (z, t) a.3 a.4 in
      let same = same_ok b.4 in (
        a.2 ∙ ap (λ r. d a.0 ++ r) b.2 ∙ sym (append_assoc (d a.0) (e b.0) b.1.0) ∙ ap (λ r. r ++ b.1.0) (sym (is a.0 b.0))
            ∙ ap (λ r. bytes r.0 ++ r.1.0) same,
        subst (AllBelowBase 256) (ap (λ r. r.1.0) same) b.3,
      )

  pub two_back : (x : A) (y : B) (at : ℕ) (rest : List ℕ) → F x → G y
      → (k : ℕ) × (two p q make (bytes (make x y) ++ rest, at) ≡ Ok (make x y, (rest, k)))
  unfolding followed
  two_back x y at rest f g =
      let a = left.back x at (e y ++ rest) f in
      let b = right.back y a.0 rest g in
      (b.0, rw (is x y, append_assoc (d x) (e y) rest, a.1, b.1))

module _ {A B C T : Type 0} {p : State → Result (A × State) Refusal} {q : State → Result (B × State) Refusal} {r : State → Result (C × State) Refusal}
    {c : A → List ℕ} {d : B → List ℕ} {e : C → List ℕ} {F : A → Type 0} {G : B → Type 0} {H : C → Type 0}
    (first : Codec p c F) (second : Codec q d G) (third : Codec r e H) (make : A → B → C → T) (bytes : T → List ℕ)
    (is : (x : A) (y : B) (z : C) → bytes (make x y z) ≡ c x ++ (d y ++ e z)) where
  pub three_only : (s t : State) (w : T) → AllBelowBase 256 s.0
      → three p q r make s ≡ Ok (w, t)
      → (s.0 ≡ bytes w ++ t.0) × AllBelowBase 256 t.0
  three_only s t w u h =
      let i = peel first.only s _ (w, t) u h in
      let j = peel second.only i.1 _ (w, t) i.3 i.4 in
      let k = peel third.only j.1 _ (w, t) j.3 j.4 in
      let same = same_ok k.4 in (
        i.2 ∙ ap (λ z. c i.0 ++ z) (j.2 ∙ ap (λ z. d j.0 ++ z) k.2 ∙ sym (append_assoc (d j.0) (e k.0) k.1.0))
            ∙ sym (append_assoc (c i.0) (d j.0 ++ e k.0) k.1.0) ∙ ap (λ z. z ++ k.1.0) (sym (is i.0 j.0 k.0))
            ∙ ap (λ z. bytes z.0 ++ z.1.0) same,
        subst (AllBelowBase 256) (ap (λ z. z.1.0) same) k.3,
      )

  pub three_back : (x : A) (y : B) (z : C) (at : ℕ) (rest : List ℕ) → F x → G y → H z
      → (k : ℕ) × (three p q r make (bytes (make x y z) ++ rest, at) ≡ Ok (make x y z, (rest, k)))
  unfolding followed
  three_back x y z at rest f g h =
      let i = first.back x at (d y ++ (e z ++ rest)) f in
      let j = second.back y i.0 (e z ++ rest) g in
      let k = third.back z j.0 rest h in
      (k.0, rw (is x y z, append_assoc (c x) (d y ++ e z) rest, append_assoc (d y) (e z) rest, i.1, j.1, k.1))

-- the groups

pub identity_codec : Codec identity_at identity_bytes IdentityFits
unfolding identity_at identity_bytes
identity_codec =
    let make : ℕ → ℕ → Identity = λ x y. record { issuer = x; serial = y } in
    record {
      back = λ x at rest ok. two_back number_codec number_codec make identity_bytes (λ _ _. refl) x.issuer x.serial at rest ok.0 ok.1;
      only = record { reads = two_only number_codec number_codec make identity_bytes (λ _ _. refl) };
    }

pub header_codec : Codec header_at header_bytes HeaderFits
unfolding header_at header_bytes
header_codec =
    let make : Identity → ℕ → ℕ → Header = λ x y z. record { identity = x; first = y; last = z } in
    record {
      back = λ x at rest ok. three_back identity_codec number_codec number_codec make header_bytes (λ _ _ _. refl) x.identity x.first x.last at rest ok.0 ok.1 ok.2;
      only = record { reads = three_only identity_codec number_codec number_codec make header_bytes (λ _ _ _. refl) };
    }

pub base_codec : Codec base_at base_bytes BaseFits
unfolding base_at base_bytes
base_codec =
    let make : Identity → ℕ → Base = λ x y. record { identity = x; card = y } in
    record {
      back = λ x at rest ok. two_back identity_codec number_codec make base_bytes (λ _ _. refl) x.identity x.card at rest ok.0 ok.1;
      only = record { reads = two_only identity_codec number_codec make base_bytes (λ _ _. refl) };
    }

pub id_codec : Codec id_at id_bytes IdFits
unfolding id_at id_bytes
id_codec =
    let make : Header → ℕ → Id = λ x y. record { header = x; subject = y } in
    record {
      back = λ x at rest ok. two_back header_codec number_codec make id_bytes (λ _ _. refl) x.header x.subject at rest ok.0 ok.1;
      only = record { reads = two_only header_codec number_codec make id_bytes (λ _ _. refl) };
    }

pub ianda_codec : Codec ianda_at ianda_bytes IandaFits
unfolding ianda_at ianda_bytes
ianda_codec =
    let make : Header → Base → List ℕ → Ianda = λ x y z. record { header = x; base = y; template = z } in
    record {
      back = λ x at rest ok. three_back header_codec base_codec octets_codec make ianda_bytes (λ _ _ _. refl) x.header x.base x.template at rest ok.0 ok.1 ok.2;
      only = record { reads = three_only header_codec base_codec octets_codec make ianda_bytes (λ _ _ _. refl) };
    }
