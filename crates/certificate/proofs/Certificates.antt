-- The two laws of certificates.
use Rattle.std.proofs.Common.{◌≡◌, ℕ, zero, suc, ◌+◌, ◌≤◌, List, [], ◌++◌, length, Some, None, Ok, Err, Option, Result, sym, refl, ap, ◌∙◌, subst, arith}
use Rattle.std.specs.Int.Digits.{AllBelowBase}
use Rattle.std.proofs.lemmas.List.{append_assoc, append-nil, length-append}
use Rattle.certificate.specs.declared.fault.Refusal.{Refusal}
use Rattle.role.specs.declared.role.Role.{Role}
use Rattle.role.specs.declared.role.Role.TheVariants.{UserOnly, Guard, SecurityOfficer, AuditManager}
use Rattle.certificate.specs.declared.fields.Identity.{Identity}
use Rattle.certificate.specs.declared.fields.Header.{Header}
use Rattle.certificate.specs.declared.fields.Base.{Base}
use Rattle.certificate.specs.declared.fields.Id.{Id}
use Rattle.certificate.specs.declared.fields.Ianda.{Ianda}
use Rattle.certificate.specs.declared.fields.Privilege.{Privilege}
use Rattle.certificate.specs.declared.numbers.Numbers.{Numbers}
use Rattle.role.specs.Roles.{role_number, role_of}
use Rattle.certificate.specs.Der.{encode_integer, wrap}
use Rattle.certificate.specs.Placed.{State, octets_at, sequence_at, end_at, ended, followed}
use Rattle.certificate.specs.Fields.{id_at, ianda_at, placed_at, numbers_at, granted, judged, identity_bytes, header_bytes, base_bytes, id_bytes, ianda_bytes, privilege_bytes}
use Rattle.certificate.specs.Certificates.{Opened, then, opened, filled, closed, certified, id_of, ianda_of, privilege_of, message_of, certificate}
use Rattle.certificate.specs.Laws.{Fits, IdentityFits, HeaderFits, BaseFits, IdFits, IandaFits, PrivilegeFits, ReadsBack, OneEncoding}
use Rattle.certificate.proofs.Elements.{same_ok}
use Rattle.certificate.proofs.States.{followed_ok, octets_only, sequence_only, end_only, octets_back, sequence_back, number_back, under_inside, length-encode}
use Rattle.certificate.proofs.Codecs.{Only, peel, number_codec, header_codec, base_codec, id_codec, ianda_codec}

then_ok : {A B : Type 0} (r : Result A Refusal) (f : A → Result B Refusal) (y : B) → then r f ≡ Ok y → (x : A) × (r ≡ Ok x) × (f x ≡ Ok y)
unfolding then
then_ok (Ok x) f y h = (x, refl, h)
then_ok (Err e) f y h = absurd cc

-- what reads is the encoding

opened_only : (xs : List ℕ) (o : Opened) → opened xs ≡ Ok o → xs ≡ wrap 0x30 (wrap 0x30 o.inner.0 ++ o.rest.0) ++ o.after.0
unfolding opened
opened_only xs o h =
    let a = followed_ok (sequence_at (xs, 0)) _ o h in
    let b = followed_ok (sequence_at a.0.0) _ o a.2 in
    sequence_only (xs, 0) a.0.0 a.0.1 a.1 ∙ ap (λ z. wrap 0x30 z ++ a.0.1.0) (sequence_only a.0.0 b.0.0 b.0.1 b.1)
    ∙ ap (λ q. wrap 0x30 (wrap 0x30 q.inner.0 ++ q.rest.0) ++ q.after.0) (same_ok b.2)

filled_only : {A : Type 0} (p : State → Result (A × State) Refusal) (e : A → List ℕ) → Only p e → (s : State) (x : A) → AllBelowBase 256 s.0 → filled p s ≡ Ok x → s.0 ≡ e x
unfolding filled
filled_only p e only s x u h =
    let a = peel only s _ x u h in
    let b = followed_ok (end_at a.1) _ x a.4 in
    a.2 ∙ ap (λ z. e a.0 ++ z) (end_only a.1 b.0 b.1) ∙ append-nil (e a.0) ∙ ap e (same_ok b.2)

closed_only : (rest after : State) (m : List ℕ) → closed rest after ≡ Ok m → (rest.0 ≡ wrap 4 m) × (after.0 ≡ [])
unfolding closed
closed_only rest after m h =
    let a = followed_ok (octets_at rest) _ m h in
    let b = followed_ok (end_at a.0.1) _ m a.2 in
    let c = followed_ok (end_at after) _ m b.2 in (
      octets_only rest a.0.1 a.0.0 a.1 ∙ ap (λ z. wrap 4 a.0.0 ++ z) (end_only a.0.1 b.0 b.1) ∙ append-nil (wrap 4 a.0.0) ∙ ap (wrap 4) (same_ok c.2),
      end_only after c.0 c.1,
    )

certified_only : {A : Type 0} (p : State → Result (A × State) Refusal) (e : A → List ℕ) → Only p e → OneEncoding (certified p) e
unfolding certified certificate message_of
certified_only p e only xs x u h =
    let a = then_ok (opened xs) _ x h in
    let o : Opened = a.0 in
    let b = then_ok (filled p o.inner) _ x a.2 in
    let c = then_ok (closed o.rest o.after) _ x b.2 in
    let same = same_ok c.2 in
    let whole = opened_only xs o a.1 in
    let under : AllBelowBase 256 o.inner.0 =
    under_inside 0x30 _ o.inner.0 o.rest.0 (under_inside 0x30 xs (wrap 0x30 o.inner.0 ++ o.rest.0) o.after.0 u whole) refl in
    let body = filled_only p e only o.inner b.0 under b.1 in
    let ends = closed_only o.rest o.after c.0 c.1 in
    let fields : e b.0 ≡ e x.fields = ap (λ z. e z.fields) same in
    let message : o.inner.0 ≡ e x.fields = body ∙ fields in (
      whole ∙ ap (λ z. wrap 0x30 (wrap 0x30 o.inner.0 ++ o.rest.0) ++ z) ends.1 ∙ append-nil (wrap 0x30 (wrap 0x30 o.inner.0 ++ o.rest.0))
          ∙ ap (λ z. wrap 0x30 (wrap 0x30 z ++ o.rest.0)) message
          ∙ ap (λ z. wrap 0x30 (wrap 0x30 (e x.fields) ++ z)) (ends.0 ∙ ap (λ z. wrap 4 z.mark) same),
      sym (ap (λ z. z.message) same) ∙ ap (wrap 0x30) message,
    )

-- the encoding is read

length-wrap : (tag : ℕ) (c : List ℕ) → length (wrap tag c) ≡ length c + 2
unfolding wrap
length-wrap tag c = omega arith

certified_back : {A : Type 0} (p : State → Result (A × State) Refusal) (body mark : List ℕ) (x : A) → length mark ≡ 32 → length body ≤ 83
    → (k : ℕ) × (p (body ++ [], 4) ≡ Ok (x, ([], k)))
    → certified p (certificate body mark) ≡ Ok (record { fields = x; message = message_of body; mark = mark })
unfolding certified certificate message_of opened filled closed then followed end_at ended
certified_back p body mark x size room q =
    let inner : List ℕ = wrap 0x30 body ++ wrap 4 mark in
    let fits : length inner ≤ 127 = omega (arith, length-append (wrap 0x30 body) (wrap 4 mark), length-wrap 0x30 body, length-wrap 4 mark) in
    let a = sequence_back inner 0 [] fits in
    let b = sequence_back body 2 (wrap 4 mark) (omega arith) in
    let c = octets_back mark b.0 [] size in
    let whole : wrap 0x30 inner ≡ wrap 0x30 inner ++ [] = sym (append-nil (wrap 0x30 inner)) in
    let fields : p (body, 4) ≡ Ok (x, ([], q.0)) = rw (append-nil body) at q.1 in
    let last : octets_at (wrap 4 mark, b.0) ≡ Ok (mark, ([], c.0)) = rw (append-nil (wrap 4 mark)) at c.1 in
    rw (whole, a.1, b.1, fields, last)

-- the lengths of the bodies

length-identity : (x : Identity) → IdentityFits x → length (identity_bytes x) ≤ 14
unfolding identity_bytes
length-identity x ok = simp length-append (omega (arith, length-encode x.issuer ok.0, length-encode x.serial ok.1))

length-header : (x : Header) → HeaderFits x → length (header_bytes x) ≤ 28
unfolding header_bytes
length-header x ok =
    simp length-append (omega (arith, length-identity x.identity ok.0, length-encode x.first ok.1, length-encode x.last ok.2))

length-base : (x : Base) → BaseFits x → length (base_bytes x) ≤ 21
unfolding base_bytes
length-base x ok = simp length-append (omega (arith, length-identity x.identity ok.0, length-encode x.card ok.1))

length-id : (x : Id) → IdFits x → length (id_bytes x) ≤ 83
unfolding id_bytes
length-id x ok = simp length-append (omega (arith, length-header x.header ok.0, length-encode x.subject ok.1))

length-ianda : (x : Ianda) → IandaFits x → length (ianda_bytes x) ≤ 83
unfolding ianda_bytes
length-ianda x ok =
    simp length-append (omega (arith, length-header x.header ok.0, length-base x.base ok.1, length-wrap 4 x.template, ok.2))

-- the ID kind, and the I&A kind

pub id_back : ReadsBack id_of id_bytes IdFits
id_back x mark ok size = certified_back id_at (id_bytes x) mark x size (length-id x ok) (id_codec.back x 4 [] ok)

pub id_one : OneEncoding id_of id_bytes
id_one = certified_only id_at id_bytes id_codec.only

pub ianda_back : ReadsBack ianda_of ianda_bytes IandaFits
ianda_back x mark ok size = certified_back ianda_at (ianda_bytes x) mark x size (length-ianda x ok) (ianda_codec.back x 4 [] ok)

pub ianda_one : OneEncoding ianda_of ianda_bytes
ianda_one = certified_only ianda_at ianda_bytes ianda_codec.only

-- the privilege kind: role and clearance as numbers

placed_only : Only placed_at (λ x. encode_integer x.number)
unfolding placed_at
placed_only =
    record {
      reads = λ s t x u h.
          let a = peel number_codec.only s _ (x, t) u h in
          let same = same_ok a.4 in
          (a.2 ∙ ap (λ q. encode_integer q.0.number ++ q.1.0) same, subst (AllBelowBase 256) (ap (λ q. q.1.0) same) a.3);
    }

numbers_bytes : Header → Base → ℕ → ℕ → List ℕ
numbers_bytes x y m n = header_bytes x ++ (base_bytes y ++ (encode_integer m ++ encode_integer n))

body_bytes : Numbers → List ℕ
body_bytes x = numbers_bytes x.header x.base x.role.number x.clearance.number

gathered : (x : Header) (y : Base) (m n : ℕ) (rest : List ℕ)
    → header_bytes x ++ (base_bytes y ++ (encode_integer m ++ (encode_integer n ++ rest))) ≡ numbers_bytes x y m n ++ rest
unfolding numbers_bytes
gathered x y m n rest =
    let h = header_bytes x in
    let b = base_bytes y in
    let i = encode_integer m in
    let j = encode_integer n in
    sym (append_assoc h (b ++ (i ++ j)) rest ∙ ap (λ z. h ++ z) (append_assoc b (i ++ j) rest ∙ ap (λ z. b ++ z) (append_assoc i j rest)))

numbers_only : Only numbers_at body_bytes
unfolding numbers_at body_bytes
numbers_only =
    record {
      reads = λ s t x u h.
          let a = peel header_codec.only s _ (x, t) u h in
          let b = peel base_codec.only a.1 _ (x, t) a.3 a.4 in
          let c = peel placed_only b.1 _ (x, t) b.3 b.4 in
          let d = peel placed_only c.1 _ (x, t) c.3 c.4 in
          let same = same_ok d.4 in (
            a.2 ∙ ap (λ z. header_bytes a.0 ++ z) (b.2 ∙ ap (λ z. base_bytes b.0 ++ z) (c.2 ∙ ap (λ z. encode_integer c.0.number ++ z) d.2))
                ∙ gathered a.0 b.0 c.0.number d.0.number d.1.0
                ∙ ap (λ q. body_bytes q.0 ++ q.1.0) same,
            subst (AllBelowBase 256) (ap (λ q. q.1.0) same) d.3,
          );
    }

placed_back : (n at : ℕ) (rest : List ℕ) → Fits n → (k : ℕ) × (placed_at (encode_integer n ++ rest, at) ≡ Ok (record { number = n; at = at }, (rest, k)))
unfolding placed_at followed
placed_back n at rest ok = let a = number_back n at rest ok in (a.0, rw a.1)

numbers_back : (x : Header) (y : Base) (m n at : ℕ) (rest : List ℕ) → HeaderFits x → BaseFits y → Fits m → Fits n
    → (i j k : ℕ) × (numbers_at (numbers_bytes x y m n ++ rest, at) ≡ Ok (record { header = x; base = y; role = record { number = m; at = i }; clearance = record { number = n; at = j } }, (rest, k)))
unfolding numbers_at followed
numbers_back x y m n at rest f g h l =
    let i = encode_integer m in
    let j = encode_integer n in
    let a = header_codec.back x at (base_bytes y ++ (i ++ (j ++ rest))) f in
    let b = base_codec.back y a.0 (i ++ (j ++ rest)) g in
    let c = placed_back m b.0 (j ++ rest) h in
    let d = placed_back n c.0 rest l in
    (b.0, c.0, d.0, rw (sym (gathered x y m n rest), a.1, b.1, c.1, d.1))

role_back : (r : Role) → role_of (role_number r) ≡ Some r
role_back UserOnly = refl
role_back Guard = refl
role_back SecurityOfficer = refl
role_back AuditManager = refl

role_forth : (n : ℕ) (r : Role) → role_of n ≡ Some r → role_number r ≡ n
role_forth zero r h = grind arith
role_forth (suc zero) r h = grind arith
role_forth (suc (suc zero)) r h = grind arith
role_forth (suc (suc (suc zero))) r h = grind arith
role_forth (suc (suc (suc (suc n)))) r h = grind arith

role_fits : (r : Role) → Fits (role_number r)
role_fits UserOnly = omega arith
role_fits Guard = omega arith
role_fits SecurityOfficer = omega arith
role_fits AuditManager = omega arith

-- over any clearance kind whose numbers and clearances return from one another
module _ {C : Type 0} (of_number : ℕ → Option C) (number_of : C → ℕ) (back : (x : C) → of_number (number_of x) ≡ Some x)
    (forth : (n : ℕ) (x : C) → of_number n ≡ Some x → number_of x ≡ n) where
  granted_only : (y : Numbers) (r : Option Role) (c : Option C) (x : Privilege C) → role_of y.role.number ≡ r → of_number y.clearance.number ≡ c
      → granted y r c ≡ Ok x → body_bytes y ≡ privilege_bytes number_of x
  unfolding body_bytes numbers_bytes privilege_bytes
  granted_only y None c x p q h = absurd cc
  granted_only y (Some r) None x p q h = absurd cc
  granted_only y (Some r) (Some c) x p q h =
      rw (sym (role_forth y.role.number r p), sym (forth y.clearance.number c q)) (ap (privilege_bytes number_of) (same_ok h))

  pub privilege_one : OneEncoding (privilege_of of_number) (privilege_bytes number_of)
  unfolding privilege_of
  privilege_one xs x u h =
      let a = then_ok (certified numbers_at xs) _ x h in
      let b = then_ok (judged of_number a.0.fields) _ x a.2 in
      let same = same_ok b.2 in
      let one = certified_only numbers_at body_bytes numbers_only xs a.0 u a.1 in
      let body : body_bytes a.0.fields ≡ privilege_bytes number_of x.fields =
      granted_only a.0.fields (role_of a.0.fields.role.number) (of_number a.0.fields.clearance.number) b.0 refl refl b.1
      ∙ ap (λ z. privilege_bytes number_of z.fields) same in (
        one.0 ∙ ap (λ z. certificate z a.0.mark) body ∙ ap (λ z. certificate (privilege_bytes number_of x.fields) z.mark) same,
        sym (ap (λ z. z.message) same) ∙ one.1 ∙ ap message_of body,
      )

  length-privilege : (x : Privilege C) → PrivilegeFits number_of x → length (privilege_bytes number_of x) ≤ 83
  unfolding privilege_bytes
  length-privilege x ok =
      simp length-append (omega (
        arith,
        length-header x.header ok.0,
        length-base x.base ok.1,
        length-encode (role_number x.role) (role_fits x.role),
        length-encode (number_of x.clearance) ok.2,
      ))

  pub privilege_back : ReadsBack (privilege_of of_number) (privilege_bytes number_of) (PrivilegeFits number_of)
  unfolding privilege_of privilege_bytes numbers_bytes then
  privilege_back x mark ok size =
      let a = numbers_back x.header x.base (role_number x.role) (number_of x.clearance) 4 [] ok.0 ok.1 (role_fits x.role) ok.2 in
      let b = certified_back numbers_at (privilege_bytes number_of x) mark _ size (length-privilege x ok) (a.2, a.3) in
      rw (b, role_back x.role, back x.clearance)
