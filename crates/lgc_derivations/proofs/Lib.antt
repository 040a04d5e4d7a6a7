pub mod FlattenLaws
