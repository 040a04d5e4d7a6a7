pub mod LatexLaws
